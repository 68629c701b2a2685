-- `core_of`. The invariant: a core; it is smaller after each turn.
use Rattle.sets.specs.Sets.{Below}
use Rattle.trial.specs.Flat.{vector}
use Rattle.trial.specs.Net.{net_graph}
use Rattle.trial.specs.Knot.{Core}
use Rattle.knot.proofs.core_of.Given as goal

abbrev pub invariant-loop-core : goal.invariant-loop-core
invariant-loop-core l = Core (net_graph l.waiting.net.now) (vector l.waiting.q.now) l.core × Below l.core l.waiting.net.now.actors

abbrev pub decreases-loop-core : goal.decreases-loop-core
decreases-loop-core l = l.core
