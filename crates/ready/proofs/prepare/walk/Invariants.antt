-- `prepare::walk` meets its contract: before each turn the graphs before graph k stand in their places, and those from it on decide.
use Rattle.ready.proofs.Readying.{Readying}
use Rattle.ready.proofs.prepare.walk.Given as goal

abbrev pub invariant-loop-k : goal.invariant-loop-k
invariant-loop-k l = Readying l.n l.l l.k l.rest l.heads l.actors
