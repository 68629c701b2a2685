-- 01, Bounds: the frame, found period by period, and each least common multiple among the multiples of one of the two.
use mathlib.Core.Path.{◌≡◌}
use mathlib.Core.Logic.{◌≢◌}
use Prim.Native.Nat.{ℕ, ◌+◌, ◌*◌, ◌/◌, ◌%◌, ◌<◌, ◌≤◌}
use native.Mathlib.Nat.{dvd-mul_left, dvd_iff_mod-eq-zero, div-lt_iff_lt-mul, le-div_iff_mul-le, mul-pos, not-suc-le-zero}
use native.Mathlib.Numerals.{add-one}
use native.Mathlib.Omega.{arith}
use Rattle.units.specs.Bounds.{max_ticks}
use Rattle.std.specs.Prelude.{None}
use Rattle.edf.specs.Frame.{Frame}
use Rattle.edf.proofs.Frame.{NoneBelow, LeastMultiple, none_below_turn, running_divides, frame_step}
use Rattle.demand.specs.Answers.{FrameAnswer}

-- The search is at the k-th multiple of a: no smaller one is a multiple of b.
module _ (a b k : ℕ) (none : NoneBelow a b (k * a)) where
  -- Where that is no multiple of b it goes on at the next.
  pub multiples_turn : k * a % b ≢ 0 → NoneBelow a b ((k + 1) * a)
  multiples_turn n c q u v =
      omega (arith, none_below_turn a b (k * a) (dvd-mul_left a k) (λ d. n ((dvd_iff_mod-eq-zero b).0 d)) none c q u v)

  -- Where it is a multiple of b it is the least common multiple.
  pub multiples_found : 0 < a → 0 < k → k ≤ max_ticks / a → k * a % b ≡ 0 → LeastMultiple a b (k * a) × (k * a ≤ max_ticks)
  multiples_found low p h e = (
    record { left = dvd-mul_left a k; right = (dvd_iff_mod-eq-zero b).1 e; positive = mul-pos p low; least = none },
    (le-div_iff_mul-le {x = k} {y = max_ticks} low).0 h,
  )

  -- Behind the last multiple within the bound, every common multiple is above it.
  pub multiples_past : 0 < a → max_ticks / a < k → NoneBelow a b (max_ticks + 1)
  multiples_past low h c q u v = omega (arith, none c q u v, (div-lt_iff_lt-mul {x = max_ticks} {y = k} low).0 h)

-- The walk over the n periods is at period i: `so_far` is the frame of those passed.
pub record Frames (n : ℕ) (period : ℕ → ℕ) (so_far i : ℕ) : Type 0 where
  pub periods : (i : ℕ) → i < n → (0 < period i) × (period i ≤ max_ticks)
  pub low : i ≤ n
  pub frame : Frame i period so_far
  pub high : so_far ≤ max_ticks

-- The frame of no period is 1.
pub frames_start : {n f : ℕ} {p : ℕ → ℕ} → ((i : ℕ) → i < n → (0 < p i) × (p i ≤ max_ticks)) → f ≡ 1 → Frames n p f 0
frames_start h e = record {
  periods = h;
  low = omega arith;
  frame = record {
    common = record { positive = omega arith; multiple = λ i l. absurd (not-suc-le-zero l) };
    least = λ m c. omega
        (arith, c.positive);
  };
  high = omega arith;
}

module _ {n i f : ℕ} {p : ℕ → ℕ} (g : Frames n p f i) (m : i < n) where
  -- The least common multiple with the next period is the next frame.
  pub frames_turn : {x t : ℕ} → x ≡ p i → LeastMultiple f x t × (t ≤ max_ticks) → Frames n p t (i + 1)
  frames_turn e (l, h) =
      record { periods = g.periods; low = omega arith; frame = rw add-one (frame_step g.frame (rw e at l)); high = h }

  -- Where it is above the bound, so is the frame of all periods.
  pub frames_outside : {x : ℕ} → x ≡ p i → NoneBelow f x (max_ticks + 1) → FrameAnswer n p None
  frames_outside e none F all = omega (
    arith,
    none F all.common.positive
        (running_divides g.frame g.low all.common) (rw e (all.common.multiple i m)),
  )

-- At the end it is the frame of all.
pub frames_whole : {n i f : ℕ} {p : ℕ → ℕ} → Frames n p f i → n ≤ i → Frame n p f × (f ≤ max_ticks)
frames_whole {n} {i} g m = let e : i ≡ n = omega (arith, g.low) in (rw e at g.frame, g.high)
