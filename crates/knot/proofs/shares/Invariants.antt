-- `shares` divides the numbers of the core by one that divides them all. The invariant: the entries passed are so.
use mathlib.Core.Path.{◌≡◌}
use Prim.Native.Nat.{ℕ, ◌*◌, ◌/◌, ◌<◌}
use lib.ListN.{get_or}
use Rattle.sets.specs.Sets.{has}
use Rattle.knot.proofs.shares.Given as goal

abbrev pub invariant-loop-v : goal.invariant-loop-v
invariant-loop-v l = (v : ℕ) → v < l.v → get_or l.share v 0 ≡ get_or l.q v 0 * has l.core v / l.d
