-- `prepare::row` meets its contract. The loop's invariant: the row holds the first v actors' numbers.
use Rattle.ready.specs.Ready.{Placed}
use Rattle.ready.proofs.prepare.row.Given as goal

abbrev pub invariant-loop-v : goal.invariant-loop-v
invariant-loop-v l = Placed l.graph.numbers.now l.q l.s l.k l.v l.initial.actors l.actors
