-- The skip constraint of a channel in two forms: document 01's quotient, rounded down, and the product without a division.
use mathlib.Core.Logic.{◌↔◌}
use Prim.Native.Nat.{ℕ, ◌+◌, ◌*◌, ◌<◌, ◌≤◌}
use native.Mathlib.Nat.{le-div_iff_mul-le}
use Rattle.sdf.specs.Graph.{Channel}
use Rattle.sdf.specs.Skip.{allowed}

-- x is at most the quotient exactly if x × produce is at most tokens + y × consume.
pub allowed_product : (e : Channel) (x y : ℕ) → 0 < e.produce → (x ≤ allowed e y) ↔ (x * e.produce ≤ e.tokens + y * e.consume)
unfolding allowed
allowed_product e x y p = le-div_iff_mul-le {x = x} {y = e.tokens + y * e.consume} p
