-- Laws of the sum over the numbers below n.
use mathlib.Core.Path.{◌≡◌, refl, ap, ap₂}
use mathlib.Core.Logic.{⊎_elim}
use Prim.Native.Nat.{ℕ, zero, suc, ◌+◌, ◌*◌, ◌<◌, ◌≤◌}
use native.Mathlib.Nat.{le_refl, le_trans, le_of_eq, add-le-add, lt-suc_self, le_step, eq-or-lt_of_le, le_of_suc-le-suc}
use native.Mathlib.Omega.{arith}
use Rattle.sdf.specs.Sum.{sum_to}

-- Equal terms, equal sums.
pub sum_ext : (f h : ℕ → ℕ) (n : ℕ) → ((i : ℕ) → i < n → f i ≡ h i) → sum_to f n ≡ sum_to h n
unfolding sum_to
sum_ext f h zero e = refl
sum_ext f h (suc n) e = ap₂ ◌+◌ (sum_ext f h n (λ i l. e i (le_step l))) (e n (lt-suc_self n))

-- No smaller terms, no smaller sum.
pub sum_mono : (f h : ℕ → ℕ) (n : ℕ) → ((i : ℕ) → i < n → f i ≤ h i) → sum_to f n ≤ sum_to h n
unfolding sum_to
sum_mono f h zero e = le_refl 0
sum_mono f h (suc n) e = add-le-add (sum_mono f h n (λ i l. e i (le_step l))) (e n (lt-suc_self n))

-- A sum of sums, term by term.
pub sum_add : (f h : ℕ → ℕ) (n : ℕ) → sum_to (λ i. f i + h i) n ≡ sum_to f n + sum_to h n
unfolding sum_to
sum_add f h zero = refl
sum_add f h (suc n) = omega (arith, sum_add f h n)

-- Terms that are at most the sum of two others.
pub sum_mono_add : (f g h : ℕ → ℕ) (n : ℕ) → ((i : ℕ) → i < n → f i ≤ g i + h i) → sum_to f n ≤ sum_to g n + sum_to h n
sum_mono_add f g h n e = le_trans (sum_mono f (λ i. g i + h i) n e) (le_of_eq (sum_add g h n))

-- A common factor.
pub sum_scale : (k : ℕ) (f : ℕ → ℕ) (n : ℕ) → sum_to (λ i. k * f i) n ≡ k * sum_to f n
unfolding sum_to
sum_scale k f zero = omega arith
sum_scale k f (suc n) = omega (arith, sum_scale k f n)

-- n terms of at most b each.
pub sum_bound : (f : ℕ → ℕ) (n b : ℕ) → ((i : ℕ) → i < n → f i ≤ b) → sum_to f n ≤ n * b
unfolding sum_to
sum_bound f zero b e = omega arith
sum_bound f (suc n) b e = omega (arith, sum_bound f n b (λ i l. e i (le_step l)), e n (lt-suc_self n))

-- A term is at most the sum.
pub term_le_sum : (f : ℕ → ℕ) (n i : ℕ) → i < n → f i ≤ sum_to f n
unfolding sum_to
term_le_sum f zero i l = omega arith
term_le_sum f (suc n) i l = ⊎_elim (λ e. omega (arith, ap f e)) (λ m. omega (arith, term_le_sum f n i m)) (eq-or-lt_of_le (le_of_suc-le-suc l))
