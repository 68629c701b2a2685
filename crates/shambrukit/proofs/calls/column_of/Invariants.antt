-- The loop's invariant: the numbers of the first v actors are copied, and behind them nothing has changed.
use mathlib.Core.Path.{◌≡◌}
use Prim.Native.Nat.{ℕ}
use lib.ListN.{length}
use Rattle.demand.specs.declared.rows.Actor.{Actor}
use Rattle.shambrukit.proofs.Copied.{Copied}
use Rattle.shambrukit.proofs.calls.column_of.Given as goal

abbrev pub invariant-loop-v : goal.invariant-loop-v
invariant-loop-v g l =
    (length l.out ≡ length l.initial.out)
    × ((field : Actor → ℕ) → ((a : Actor) (n : ℕ) → goal.N-post g l.number a n → n ≡ field a) → Copied field l.actors l.initial.out l.out l.v)
