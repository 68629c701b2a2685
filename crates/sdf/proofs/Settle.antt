-- Step until at rest: one law for the vectors and sets that document 01 asks for as the least or the greatest, with the
-- change of one entry of a vector and the search for a place where something fails. On closed numbers they compute.
use mathlib.Core.Path.{◌≡◌, refl, ap}
use mathlib.Core.Bool.{cond}
use mathlib.Core.Logic.{◌⊎◌, inl, inr, ⊎_elim, ◌≢◌}
use Prim.Native.Nat.{ℕ, zero, suc, ◌+◌, ◌<◌}
use native.Mathlib.Nat.{lt-suc_self, le_step, lt_of_lt_of_le, le_of_suc-le-suc, eq-or-lt_of_le, not-suc-le-zero}
use native.Mathlib.Omega.{arith}
use lib.Dec.{eqb}
use borrow.Author.Tests.{eq-eqb, ne_eqb}
use Rattle.sdf.specs.Sum.{sum_to}
use Rattle.sdf.proofs.Numbers.{eq_or_ne}
use Rattle.sdf.proofs.Sum.{sum_ext}

module _ {S : Type 0} (Done : S → Type 0) (measure : S → ℕ) (step : (s : S) → Done s ⊎ ((t : S) × (measure t < measure s))) where
  settle_within : (n : ℕ) (s : S) → measure s < n → (r : S) × Done r
  settle_within zero s l = absurd (not-suc-le-zero l)
  settle_within (suc n) s l = elim (step s) [ inl d ↦ (s, d) | inr t ↦ settle_within n t.0 (lt_of_lt_of_le t.1 (le_of_suc-le-suc l)) ]

  -- A step from each state that is not at rest, to a state of smaller measure: some state is at rest.
  unfoldable pub settle : S → (r : S) × Done r
  unfolding settle_within
  settle s = settle_within (suc (measure s)) s (lt-suc_self (measure s))

-- What holds below n and at n holds below n + 1.
pub below_suc : (P : ℕ → Type 0) (n : ℕ) → ((i : ℕ) → i < n → P i) → P n → (i : ℕ) → i < suc n → P i
below_suc P n all p i l = ⊎_elim (λ e. rw e p) (all i) (eq-or-lt_of_le (le_of_suc-le-suc l))

module _ {P Q : ℕ → Type 0} (test : (i : ℕ) → P i ⊎ Q i) where
  -- Below n, P holds everywhere or Q holds somewhere.
  unfoldable pub first_fails : (n : ℕ) → ((i : ℕ) → i < n → P i) ⊎ ((i : ℕ) × (i < n) × Q i)
  first_fails zero = inl (λ i l. absurd (not-suc-le-zero l))
  first_fails (suc n) =
      elim (first_fails n) [
        | inl all ↦ elim (test n) [
          | inl p ↦ inl (below_suc P n all p)
          | inr q ↦ inr (n, lt-suc_self n, q)
        ]
        | inr f ↦ inr (f.0, le_step f.1, f.2)
      ]

-- The vector x with n at place v.
unfoldable pub put : {A : Type 0} → (ℕ → A) → ℕ → A → ℕ → A
put x v n w = cond (eqb w v) n (x w)

module _ {A : Type 0} (x : ℕ → A) (v : ℕ) (n : A) where
  -- At place v stands n.
  pub put_same : put x v n v ≡ n
  unfolding put
  put_same = rw (eq-eqb v v refl)

  -- Elsewhere stands what stood there.
  pub put_other : (w : ℕ) → w ≢ v → put x v n w ≡ x w
  unfolding put
  put_other w e = rw (ne_eqb w v e)

-- What holds of n at place v, and of x elsewhere, holds of the changed vector.
pub put_keeps : {A : Type 0} (P : ℕ → A → Type 0) (x : ℕ → A) (v : ℕ) (n : A) → P v n → (w : ℕ) → P w (x w) → P w (put x v n w)
put_keeps P x v n p w h = ⊎_elim (λ e. rw e (rw (put_same x v n) p)) (λ d. rw (put_other x v n w d) h) (eq_or_ne w v)

-- A change of one entry changes the sum by as much.
pub sum_put : (x : ℕ → ℕ) (v n k : ℕ) → v < k → sum_to (put x v n) k + x v ≡ sum_to x k + n
unfolding sum_to
sum_put x v n zero l = omega arith
sum_put x v n (suc k) l =
    ⊎_elim
    (λ e. omega (arith, ap x e, put_same x v n, ap (put x v n) e, sum_ext (put x v n) x k (λ i m. put_other x v n i (λ d. omega arith))))
    (λ m. omega (arith, sum_put x v n k m, put_other x v n k (λ d. omega arith)))
    (eq-or-lt_of_le (le_of_suc-le-suc l))

-- Raising an entry raises the sum.
pub sum_raise : (x : ℕ → ℕ) (v n k : ℕ) → v < k → x v < n → sum_to x k < sum_to (put x v n) k
sum_raise x v n k l m = omega (arith, sum_put x v n k l)

-- Lowering an entry lowers the sum.
pub sum_lower : (x : ℕ → ℕ) (v n k : ℕ) → v < k → n < x v → sum_to (put x v n) k < sum_to x k
sum_lower x v n k l m = omega (arith, sum_put x v n k l)
