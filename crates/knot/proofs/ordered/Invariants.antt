-- `ordered`. The invariant: who is not left has fired all of q wherever a run stops; with each pass that takes somebody out fewer are left.
use Rattle.sets.specs.Sets.{Below}
use Rattle.trial.specs.Flat.{vector}
use Rattle.trial.specs.Net.{net_graph}
use Rattle.trial.specs.Knot.{Done}
use Rattle.knot.proofs.ordered.Given as goal

abbrev pub invariant-loop-left : goal.invariant-loop-left
invariant-loop-left l = Done (net_graph l.waiting.net.now) (vector l.waiting.q.now) l.left × Below l.left l.waiting.net.now.actors

abbrev pub decreases-loop-left : goal.decreases-loop-left
decreases-loop-left l = l.left
