-- `start` leaves all of q still to come, with every actor ready. The invariant: the numbers passed are copied, and the sum is theirs.
use mathlib.Core.Path.{◌≡◌}
use Prim.Native.Nat.{ℕ, ◌<◌}
use lib.ListN.{get_or}
use Rattle.sdf.specs.Sum.{sum_to}
use Rattle.trial.specs.Flat.{vector}
use Rattle.trial.proofs.run.start.Given as goal

abbrev pub invariant-loop-v : goal.invariant-loop-v
invariant-loop-v l = ((w : ℕ) → w < l.v → get_or l.left w 0 ≡ get_or l.q w 0) × (l.rest.n ≡ sum_to (vector l.q) l.v)
