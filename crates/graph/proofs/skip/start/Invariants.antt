-- `start` fills the vector actor by actor.
use Prim.Native.Nat.{ℕ, ◌<◌}
use Rattle.trial.specs.Flat.{vector}
use Rattle.graph.proofs.Lowering.{High}
use Rattle.graph.proofs.skip.start.Given as goal

abbrev pub invariant-loop-v : goal.invariant-loop-v
invariant-loop-v l = (v : ℕ) → v < l.v → High l.actors l.zero (vector l.q) v (vector l.skip-items v)
