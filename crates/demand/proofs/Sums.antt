-- A sum that is taken term by term, and fits 64 bits after each.
use mathlib.Core.Path.{◌≡◌}
use Prim.Native.Nat.{ℕ, ◌+◌, ◌^◌, ◌<◌}
use native.Mathlib.Numerals.{add-one}
use native.Mathlib.Omega.{arith}
use Rattle.sdf.specs.Sum.{sum_to}

-- With x the sum of the first n terms and y the next one: y fits, x + y fits, and is the sum of n + 1 terms.
pub record Added (f : ℕ → ℕ) (x y n : ℕ) : Type 0 where
  pub term : y < 2 ^ 64
  pub fits : x + y < 2 ^ 64
  pub sum : x + y ≡ sum_to f (n + 1)

-- One term more.
pub next_term : (f : ℕ → ℕ) (n : ℕ) → sum_to f (n + 1) ≡ sum_to f n + f n
unfolding sum_to
next_term f n = rw add-one

-- The next term is added, where the sum with it fits.
pub added : (f : ℕ → ℕ) {x y n : ℕ} → sum_to f (n + 1) < 2 ^ 64 → x ≡ sum_to f n → y ≡ f n → Added f x y n
added f {n = n} h a b = let e = next_term f n in record { term = omega arith; fits = omega arith; sum = omega arith }
