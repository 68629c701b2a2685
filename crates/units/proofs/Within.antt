-- 01, Bounds: what the answer of a checked constructor tells of the number that was asked about.
use Prim.Native.Nat.{ℕ, ◌≤◌, ◌<◌}
use mathlib.Core.Path.{◌≡◌, refl, sym, subst, ◌∙◌}
use mathlib.Core.Logic.{◌⊎◌, inl, inr}
use mathlib.Core.Bool.{Bool, true, false, cond, ◌&&◌}
use borrow.Author.Tests.{leb-true, leb-false}
use lib.Dec.{leb}
use Rattle.std.specs.Prelude.{Option, Some, None}
use Rattle.units.specs.Within.{between, within, ticks_within, firings_within, tokens_within}
use Rattle.units.specs.declared.Ticks.{Ticks}
use Rattle.units.specs.declared.Firings.{Firings}
use Rattle.units.specs.declared.Tokens.{Tokens}

abbrev pub InBounds : ℕ → ℕ → ℕ → Type 0
InBounds low high n = (low ≤ n) × (n ≤ high)

abbrev pub OutOfBounds : ℕ → ℕ → ℕ → Type 0
OutOfBounds low high n = (n < low) ⊎ (high < n)

-- What holds of each of two answers in its case holds of the one that the test picks.
picked : {A : Type 0} (P : A → Type 0) (low high n : ℕ) {a b : A} → (InBounds low high n → P a) → (OutOfBounds low high n → P b) → P (cond (between low high n) a b)
picked P low high n {a} {b} inside outside = at (leb low n) refl (leb n high) refl
  where
    at : (p : Bool) → leb low n ≡ p → (q : Bool) → leb n high ≡ q → P (cond (p && q) a b)
    at true e true f = inside (leb-true _ _ e, leb-true _ _ f)
    at true e false f = outside (inr (leb-false _ _ f))
    at false e q f = outside (inl (leb-false _ _ e))

-- Where the answer holds a count, the number is within the bounds and is that of the count; else it is out of bounds.
abbrev pub Told : {C : Type 0} → (C → ℕ) → ℕ → ℕ → ℕ → Option C → Type 0
Told number low high n (Some c) = InBounds low high n × (number c ≡ n)
Told number low high n None = OutOfBounds low high n

-- So it is of every checked constructor.
pub told : {C : Type 0} (number : C → ℕ) (counted : ℕ → C) → ((n : ℕ) → number (counted n) ≡ n) → (low high n : ℕ) {r s : Option C} → r ≡ within counted low high n → r ≡ s → Told number low high n s
told number counted same low high n p q =
    subst (Told number low high n) (sym p ∙ q) (picked (Told number low high n) low high n (λ h. (h, same n)) (λ h. h))

pub ticks_told : (low high n : ℕ) {r s : Option Ticks} → r ≡ ticks_within low high n → r ≡ s → Told (λ (t : Ticks). t.n) low high n s
ticks_told = told (λ t. t.n) (λ n. record { n = n }) (λ n. refl)

pub firings_told : (low high n : ℕ) {r s : Option Firings} → r ≡ firings_within low high n → r ≡ s → Told (λ (k : Firings). k.n) low high n s
firings_told = told (λ k. k.n) (λ n. record { n = n }) (λ n. refl)

pub tokens_told : (low high n : ℕ) {r s : Option Tokens} → r ≡ tokens_within low high n → r ≡ s → Told (λ (m : Tokens). m.n) low high n s
tokens_told = told (λ m. m.n) (λ n. record { n = n }) (λ n. refl)
