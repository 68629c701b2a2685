-- Laws on numbers that the library lacks or states under a truncation.
use mathlib.Core.Path.{◌≡◌, refl}
use mathlib.Core.Bool.{Bool, true, false, cond}
use mathlib.Core.Logic.{◌⊎◌, inl, inr, ⊎_elim, ◌≢◌}
use Prim.Native.Nat.{ℕ, ◌*◌, ◌-◌, ◌/◌, ◌<◌, ◌≤◌}
use native.Mathlib.Nat.{mul_comm, mul-sub, eq-zero-or-pos, div-zero, div-mul-le_self, le-div_iff_mul-le, le_refl, le_trans}
use lib.Dec.{ltb, eqb}
use borrow.Author.Tests.{ltb-true, ltb-false, eqb-true, eqb-false, eq-eqb, ne_eqb}

unfoldable pub lt_or_ge : (a b : ℕ) → (a < b) ⊎ (b ≤ a)
lt_or_ge a b = go (ltb a b) refl
  where
    go : (t : Bool) → ltb a b ≡ t → (a < b) ⊎ (b ≤ a)
    go true e = inl (ltb-true a b e)
    go false e = inr (ltb-false a b e)

unfoldable pub eq_or_ne : (a b : ℕ) → (a ≡ b) ⊎ (a ≢ b)
eq_or_ne a b = go (eqb a b) refl
  where
    go : (t : Bool) → eqb a b ≡ t → (a ≡ b) ⊎ (a ≢ b)
    go true e = inl (eqb-true a b e)
    go false e = inr (eqb-false a b e)

pub sub_mul : (a b k : ℕ) → (a - b) * k ≡ a * k - b * k
sub_mul a b k = rw (mul_comm (a - b) k, mul-sub k a b, mul_comm k a, mul_comm k b)

-- A larger number has no smaller quotient.
pub div_mono : (T : ℕ) {a b : ℕ} → a ≤ b → a / T ≤ b / T
div_mono T {a} {b} h = ⊎_elim
    (λ (z : T ≡ 0). simp (z, div-zero) (le_refl 0))
    (λ p. (le-div_iff_mul-le {x = a / T} {y = b} p).1 (le_trans (div-mul-le_self a T) h))
    (eq-zero-or-pos T)

-- A choice by whether two numbers are equal takes the first where they are.
pub chosen : {a b : ℕ} (x y : ℕ) → a ≡ b → cond (eqb a b) x y ≡ x
chosen {a} {b} x y e = rw (eq-eqb a b e)

-- A choice by whether two numbers are equal takes the second where they are not.
pub passed : {a b : ℕ} (x y : ℕ) → a ≢ b → cond (eqb a b) x y ≡ y
passed {a} {b} x y n = rw (ne_eqb a b n)
