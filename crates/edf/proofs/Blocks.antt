-- 01, Blocks due: the laws of the number of blocks due in a length.
use mathlib.Core.Path.{◌≡◌, ◌∙◌, ap, sym}
use mathlib.Core.Logic.{⊎_elim, ◌↔◌}
use Prim.Native.Nat.{ℕ, ◌+◌, ◌*◌, ◌-◌, ◌/◌, ◌<◌, ◌≤◌, ◌∣◌}
use native.Mathlib.Nat.{sub-eq-zero_of_le, sub-add_cancel, zero-div, div-eq_of_lt, div-le_self, add-div_right, add-mul-div_right, le-div_iff_mul-le, div-lt_iff_lt-mul, div-mul_cancel, le_of_lt, le_trans, le_of_eq}
use native.Mathlib.Omega.{arith}
use borrow.Author.Tests.{lt-ltb, le-ltb}
use Rattle.sdf.proofs.Numbers.{lt_or_ge, div_mono}
use Rattle.edf.specs.Arrivals.{due}

div_less : (x a T : ℕ) → 0 < T → (x - a * T) / T ≡ x / T - a
div_less x a T p = ⊎_elim
    (λ (h : x < a * T). rw (sub-eq-zero_of_le (le_of_lt h), zero-div T) (omega (arith, (div-lt_iff_lt-mul {x = x} {y = a} p).1 h)))
    (λ h. omega (arith, add-mul-div_right (x - a * T) a p, ap (λ (y : ℕ). y / T) (sub-add_cancel h)))
    (lt_or_ge x (a * T))

-- No block is due in a length below the deadline.
pub due_early : (T D t : ℕ) → t < D → due T D t ≡ 0
unfolding due
due_early T D t h = rw (lt-ltb t D h)

-- In any other length (t − D) / T, rounded down, plus 1 are due.
pub due_from : (T D t : ℕ) → D ≤ t → due T D t ≡ (t - D) / T + 1
unfolding due
due_from T D t h = rw (le-ltb t D h)

-- Blocks due as one quotient, in a length below the deadline too: `-` stops at 0.
pub due_quotient : (T D t : ℕ) → 0 < T → due T D t ≡ (t + T - D) / T
due_quotient T D t p = ⊎_elim
    (λ h. due_early T D t h ∙ sym (div-eq_of_lt (omega arith)))
    (λ h. due_from T D t h ∙ sym (add-div_right (t - D) p) ∙ ap (λ (x : ℕ). x / T) (omega arith))
    (lt_or_ge t D)

-- At least K blocks are due exactly if K periods fit into the length and one period, less the deadline.
pub due_reaches : (T D K t : ℕ) → 0 < T → (K ≤ due T D t) ↔ (K * T ≤ t + T - D)
due_reaches T D K t p = rw (due_quotient T D t p) (le-div_iff_mul-le {x = K} {y = t + T - D} p)

-- Blocks due never fall as the length grows.
pub due_mono : (T D : ℕ) {t u : ℕ} → t ≤ u → due T D t ≤ due T D u
due_mono T D {t} {u} h = ⊎_elim
    (λ e. omega (arith, due_early T D t e))
    (λ l. omega (arith, due_from T D t l, due_from T D u (le_trans l h), div_mono T {a = t - D} {b = u - D} (omega arith)))
    (lt_or_ge t D)

-- A frame more of length adds at most frame / T blocks.
pub due_frame : (T D t : ℕ) {F : ℕ} → 0 < T → T ∣ F → due T D (t + F) ≤ due T D t + F / T
due_frame T D t {F} p d = rw (due_quotient T D (t + F) p, due_quotient T D t p)
    (le_trans
    (div_mono T {b = t + T - D + F / T * T} (omega (arith, div-mul_cancel T d)))
    (le_of_eq (add-mul-div_right (t + T - D) (F / T) p)))

-- A deadline a periods later: a blocks fewer.
pub due_later : (T D a t : ℕ) → 0 < T → due T (a * T + D) t ≡ due T D t - a
due_later T D a t p = rw (due_quotient T (a * T + D) t p, due_quotient T D t p)
    (ap (λ (x : ℕ). x / T) (omega arith) ∙ div_less (t + T - D) a T p)

-- With a positive deadline there are at most as many blocks due as the length has ticks.
pub due_at_most : (T D t : ℕ) → 0 < D → due T D t ≤ t
due_at_most T D t p = ⊎_elim
    (λ h. omega (arith, due_early T D t h))
    (λ h. omega (arith, due_from T D t h, div-le_self (t - D) T))
    (lt_or_ge t D)
