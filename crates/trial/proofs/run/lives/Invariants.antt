-- `lives` decides deadlock (01, Deadlock). Outer loop: a run toward q, with fewer firings still to come after each pass. Inner
-- loop: a pass, in which either something has fired or no actor passed is ready.
use Rattle.trial.specs.Flat.{vector}
use Rattle.trial.specs.Net.{net_graph}
use Rattle.trial.specs.Trial.{Run}
use Rattle.trial.proofs.Toward.{Pass}
use Rattle.trial.proofs.run.lives.Given as goal

abbrev pub invariant-loop-v : goal.invariant-loop-v
invariant-loop-v l = Pass (net_graph l.lists.net.now) (vector l.q) l.tokens l.left l.ready l.initial.rest.n l.rest.n l.fired l.v

abbrev pub invariant-run : goal.invariant-run
invariant-run l = Run (net_graph l.lists.net.now) (vector l.q) l.tokens l.left l.ready l.rest.n

abbrev pub decreases-run : goal.decreases-run
decreases-run l = l.rest.n
