-- 01, answer 21: the search for the smallest late length, window by window, each settled from its end down.
use mathlib.Core.Path.{◌≡◌}
use Prim.Native.Nat.{ℕ, ◌≤◌}
use Rattle.std.specs.Prelude.{Option, Some, None}
use Rattle.units.specs.declared.Ticks.{Ticks}
use Rattle.edf.specs.Demand.{Works, Late}
use Rattle.edf.proofs.Demand.{WithinBelow}

-- The open lengths go up to the late length that was found, or else to the end.
abbrev pub OpenTo : Works → (end high : ℕ) → Option Ticks → Type 0
OpenTo ws end high (Some t) = (t.n ≡ high) × Late ws high
OpenTo ws end high None = high ≡ end

-- So they do, and the lengths below `low` are within.
pub record Searching (ws : Works) (end low high : ℕ) (found : Option Ticks) : Type 0 where
  pub within : WithinBelow ws low
  pub low_high : low ≤ high
  pub high_end : high ≤ end
  pub open_to : OpenTo ws end high found
