-- 01, Arrivals and Blocks due: the blocks due in a length are the most that can arrive at least T apart and fall due inside it.
use mathlib.Core.Path.{◌≡◌, refl, sym, ap, ◌∙◌}
use mathlib.Core.List.{List, [], ◌∷◌}
use mathlib.Core.Logic.{⊎_elim}
use Prim.Native.Nat.{ℕ, zero, suc, ◌+◌, ◌-◌, ◌*◌, ◌/◌, ◌<◌, ◌≤◌}
use native.Mathlib.Nat.{le-div_iff_mul-le, div-mul-le_self}
use native.Mathlib.Omega.{arith}
use lib.ListN.{length}
use Rattle.sdf.proofs.Numbers.{lt_or_ge}
use Rattle.edf.specs.Arrivals.{due, Apart, Inside}
use Rattle.edf.proofs.Blocks.{due_early, due_from}

-- n arrivals from x on, exactly T apart.
series : ℕ → ℕ → ℕ → List ℕ
series T x zero = []
series T x (suc n) = x ∷ series T (x + T) n

series_length : (T x n : ℕ) → length (series T x n) ≡ n
unfolding series
series_length T x zero = refl
series_length T x (suc n) = ap suc (series_length T (x + T) n)

series_apart : (T x n : ℕ) → Apart T (series T x n)
unfolding series Apart
series_apart T x zero = tt
series_apart T x (suc zero) = tt
series_apart T x (suc (suc n)) = (omega arith, series_apart T (x + T) (suc n))

module _ (T D start t : ℕ) where
  -- From the first arrival to the last output due are as many periods as blocks follow the first, and a deadline.
  span : (x : ℕ) (later : List ℕ) → Apart T (x ∷ later) → Inside D start t (x ∷ later) → x + length later * T + D ≤ start + t
  unfolding Apart Inside
  span x [] a i = omega arith
  span x (y ∷ later) a i = omega (arith, span y later a.1 i.2)

  -- No more blocks than are due arrive at least T apart and fall due inside the interval.
  pub arrivals_at_most : 0 < T → (l : List ℕ) → Apart T l → Inside D start t l → length l ≤ due T D t
  unfolding Inside
  arrivals_at_most p [] a i = omega arith
  arrivals_at_most p (x ∷ later) a i =
      let s = span x later a i in
      let d = due_from T D t (omega arith) in
      omega (arith, (le-div_iff_mul-le {x = length later} {y = t - D} p).1 (omega arith))

  series_inside : (x n : ℕ) → start ≤ x → x + n * T + D ≤ start + t + T → Inside D start t (series T x n)
  unfolding series Inside
  series_inside x zero l h = tt
  series_inside x (suc n) l h = (l, omega arith, series_inside (x + T) n (omega arith) (omega arith))

  -- As many blocks as are due arrive at least T apart and fall due inside the interval.
  pub arrivals_reached : (l : List ℕ) × Apart T l × Inside D start t l × (length l ≡ due T D t)
  unfolding Apart Inside
  arrivals_reached = ⊎_elim
      (λ h. ([], tt, tt, omega (arith, due_early T D t h)))
      (λ h. (series T start n, series_apart T start n, inside h, series_length T start n ∙ sym (due_from T D t h)))
      (lt_or_ge t D)
    where
      n : ℕ
      n = (t - D) / T + 1

      inside : D ≤ t → Inside D start t (series T start n)
      inside h = series_inside start n (omega arith) (omega (arith, div-mul-le_self (t - D) T))
