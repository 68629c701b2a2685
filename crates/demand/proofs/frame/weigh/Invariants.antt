-- `frame::weigh` meets its contract. The loop's invariant: the graphs passed are weighed.
use mathlib.Core.Path.{◌≡◌}
use Prim.Native.Nat.{ℕ, ◌<◌}
use lib.ListN.{length, get_or}
use Rattle.edf.specs.Demand.{iteration}
use Rattle.demand.specs.Lent.{no_ticks}
use Rattle.demand.specs.Rows.{work_in}
use Rattle.demand.proofs.frame.weigh.Given as goal

abbrev pub invariant-loop-i : goal.invariant-loop-i
invariant-loop-i l = ((j : ℕ) → j < l.i → (get_or l.weight j no_ticks).n ≡ iteration (work_in l.rows j)) × (length l.weight ≡ length l.initial.weight)
