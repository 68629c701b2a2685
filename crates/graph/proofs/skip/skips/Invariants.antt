-- `skips` meets its contract: with each turn an entry falls, or fewer actors are left to be looked at.
use Prim.Native.Nat.{◌+◌, ◌*◌, ◌^◌}
use Rattle.sdf.specs.Sum.{sum_to}
use Rattle.trial.specs.Flat.{vector}
use Rattle.trial.specs.Net.{net_graph}
use Rattle.graph.proofs.Lowering.{Settling}
use Rattle.graph.proofs.skip.skips.Given as goal

abbrev pub invariant-loop-todo : goal.invariant-loop-todo
invariant-loop-todo l = Settling (net_graph l.net) l.zero l.todo l.s

abbrev pub decreases-loop-todo : goal.decreases-loop-todo
decreases-loop-todo l = sum_to (vector l.s) l.net.actors * 2 ^ 64 + l.todo
