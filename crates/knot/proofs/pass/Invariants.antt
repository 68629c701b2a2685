-- `pass`. The invariant: who is not in the rest has fired all of q wherever a run stops, and the rest is some of those left.
use Prim.Native.Nat.{◌≤◌}
use Rattle.sets.specs.Sets.{Below}
use Rattle.trial.specs.Flat.{vector}
use Rattle.trial.specs.Net.{net_graph}
use Rattle.trial.specs.Knot.{Done}
use Rattle.knot.proofs.pass.Given as goal

abbrev pub invariant-loop-v : goal.invariant-loop-v
invariant-loop-v l = Done (net_graph l.waiting.net.now) (vector l.waiting.q.now) l.rest × Below l.rest l.waiting.net.now.actors × (l.rest ≤ l.left)
