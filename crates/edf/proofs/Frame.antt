-- 01, Bounds: there is one frame; it divides every common multiple of the periods, and it is found period by period.
use mathlib.Core.Path.{◌≡◌}
use mathlib.Core.Logic.{⊎_elim}
use Prim.Native.Nat.{ℕ, zero, suc, ◌+◌, ◌-◌, ◌*◌, ◌%◌, ◌<◌, ◌≤◌, ◌∣◌}
use native.Mathlib.Nat.{le_refl, le_step, le_antisymm, lt_of_lt_of_le, le_of_suc-le-suc, eq-or-lt_of_le, lt-suc_self, mul-pos, mod-lt, not-suc-le-zero}
use native.Mathlib.Nat.{dvd_iff_mod-eq-zero, dvd-mod_iff, dvd-sub, dvd-add, dvd_refl, dvd_trans, dvd-mul_left, dvd-mul_right, le_of_dvd}
use native.Mathlib.Omega.{arith}
use Rattle.sdf.proofs.Numbers.{lt_or_ge, eq_or_ne}
use Rattle.edf.specs.Frame.{CommonMultiple, Frame}

-- Every positive common multiple of a and b is at least m.
abbrev pub NoneBelow : ℕ → ℕ → ℕ → Type 0
NoneBelow a b m = (k : ℕ) → 0 < k → a ∣ k → b ∣ k → m ≤ k

-- m is the least common multiple of a and b.
pub record LeastMultiple (a b m : ℕ) : Type 0 where
  pub left : a ∣ m
  pub right : b ∣ m
  pub positive : 0 < m
  pub least : NoneBelow a b m

-- A common multiple is the least if no smaller positive multiple of a is one of b.
pub least_multiple : {a b m : ℕ} → a ∣ m → b ∣ m → 0 < m → ((k : ℕ) → 0 < k → k < m → a ∣ k → ¬ (b ∣ k)) → LeastMultiple a b m
least_multiple {m = m} x y p none = record {
  left = x;
  right = y;
  positive = p;
  least = λ k q u v. ⊎_elim (λ h. absurd (none k q h u v)) (λ h. h) (lt_or_ge k m);
}

-- No common multiple is below a itself.
pub none_below_start : (a b : ℕ) → NoneBelow a b a
none_below_start a b k q u v = le_of_dvd q u

-- If no common multiple is below the multiple m of a, and m is none of b, none is below the next multiple of a.
pub none_below_turn : (a b m : ℕ) → a ∣ m → ¬ (b ∣ m) → NoneBelow a b m → NoneBelow a b (m + a)
none_below_turn a b m x y none k q u v = ⊎_elim
    (λ e. absurd (y (rw e v)))
    (λ h. omega (arith, le_of_dvd {m = a} {n = k - m} (omega arith) (dvd-sub a u x)))
    (eq-or-lt_of_le (none k q u v))

-- Two positive numbers have a least common multiple.
pub lcm_exists : {a b : ℕ} → 0 < a → 0 < b → (m : ℕ) × LeastMultiple a b m
lcm_exists {a} {b} p q = find b a (dvd_refl a) p (none_below_start a b) (omega arith)
  where
    find : (n m : ℕ) → a ∣ m → 0 < m → NoneBelow a b m → a * b ≤ m + n * a → (m : ℕ) × LeastMultiple a b m
    find zero m d z none h = (m, record { left = d; right = rw full at (dvd-mul_left b a); positive = z; least = none })
      where
        full : a * b ≡ m
        full = omega (arith, none (a * b) (mul-pos p q) (dvd-mul_right a b) (dvd-mul_left b a))
    find (suc n) m d z none h = ⊎_elim
        (λ e. (m, record { left = d; right = (dvd_iff_mod-eq-zero b).1 e; positive = z; least = none }))
        (λ e. find n (m + a) (dvd-add a d (dvd_refl a)) (omega arith)
        (none_below_turn a b m d (λ r. e ((dvd_iff_mod-eq-zero b).0 r)) none) (omega arith))
        (eq_or_ne (m % b) 0)

-- There is one frame.
pub frame_one : {n : ℕ} {p : ℕ → ℕ} {F G : ℕ} → Frame n p F → Frame n p G → F ≡ G
frame_one {F = F} {G = G} f g = le_antisymm (f.least G g.common) (g.least F f.common)

-- The frame divides every number that all periods divide, 0 among them.
pub frame_divides_all : {n : ℕ} {p : ℕ → ℕ} {F : ℕ} (m : ℕ) → Frame n p F → ((i : ℕ) → i < n → p i ∣ m) → F ∣ m
frame_divides_all {n} {p} {F} m f d = (dvd_iff_mod-eq-zero F).1 (⊎_elim
    (λ h. omega (arith, f.least (m % F) (record { positive = h; multiple = rest }), mod-lt m f.common.positive))
    (λ h. omega arith)
    (lt_or_ge 0 (m % F)))
  where
    rest : (i : ℕ) → i < n → p i ∣ m % F
    rest i l = (dvd-mod_iff (p i) (f.common.multiple i l)).1 (d i l)

-- The frame of the first periods divides every common multiple of all.
pub running_divides : {k n : ℕ} {p : ℕ → ℕ} {F m : ℕ} → Frame k p F → k ≤ n → CommonMultiple n p m → F ∣ m
running_divides {m = m} f l c = frame_divides_all m f (λ i h. c.multiple i (lt_of_lt_of_le h l))

-- The frame divides every common multiple of the periods.
pub frame_divides : {n : ℕ} {p : ℕ → ℕ} {F m : ℕ} → Frame n p F → CommonMultiple n p m → F ∣ m
frame_divides {n} f c = running_divides f (le_refl n) c

-- If the frame of the first periods is above a bound, so is the frame of all.
pub running_bound : {k n : ℕ} {p : ℕ → ℕ} {F bound : ℕ} → Frame k p F → k ≤ n → bound < F → (G : ℕ) → Frame n p G → bound < G
running_bound f l h G g = lt_of_lt_of_le h (le_of_dvd g.common.positive (running_divides f l g.common))

-- One more period: the least common multiple of the frame so far and that period is the new frame.
pub frame_step : {n : ℕ} {p : ℕ → ℕ} {F m : ℕ} → Frame n p F → LeastMultiple F (p n) m → Frame (suc n) p m
frame_step {n} {p} {F} {m} f l = record {
  common = record { positive = l.positive; multiple = multiple };
  least = λ k c. l.least k c.positive (running_divides f (le_step (le_refl n)) c) (c.multiple n (lt-suc_self n));
}
  where
    multiple : (i : ℕ) → i < suc n → p i ∣ m
    multiple i h = ⊎_elim (λ e. rw e l.right) (λ b. dvd_trans (p i) (f.common.multiple i b) l.left)
        (eq-or-lt_of_le (le_of_suc-le-suc h))

-- Positive periods have a frame.
pub frame_positive_exists : (n : ℕ) (p : ℕ → ℕ) → ((i : ℕ) → i < n → 0 < p i) → (F : ℕ) × Frame n p F
frame_positive_exists zero p h =
    (1, record { common = record { positive = omega arith; multiple = λ i l. absurd (not-suc-le-zero l) }; least = λ m c. c.positive })
frame_positive_exists (suc n) p h =
    let (F, f) = frame_positive_exists n p (λ i l. h i (le_step l)) in
    let (m, l) = lcm_exists {b = p n} f.common.positive (h n (lt-suc_self n)) in
    (m, frame_step f l)
