-- 01, Demand, Frame load, answers 0 and 21: what the lengths below the frame say of all lengths, without end.
use mathlib.Core.Path.{◌≡◌, ap, sym}
use mathlib.Core.Logic.{◌⊎◌, inl, inr, ⊎_elim, ⊎_map, ◌↔◌}
use Prim.Native.Nat.{ℕ, zero, suc, ◌+◌, ◌*◌, ◌-◌, ◌/◌, ◌%◌, ◌<◌, ◌≤◌}
use native.Mathlib.Nat.{eq-or-lt_of_le, le_of_suc-le-suc, mul-le-mul_left, mul-le-mul_right, le_trans, mod-lt, mod-add-div', pos_of_dvd_of_pos, le_refl, zero-mul, suc-mul, add-zero, add_assoc, sub-add_cancel, div-mul_cancel}
use native.Mathlib.Omega.{arith}
use Rattle.sdf.specs.Sum.{sum_to}
use Rattle.sdf.specs.Skip.{fewest}
use Rattle.sdf.proofs.Numbers.{lt_or_ge}
use Rattle.sdf.proofs.Sum.{sum_mono, sum_mono_add, sum_scale, term_le_sum}
use Rattle.edf.specs.Demand.{Work, Works, cost, blocks, demand, iteration, load, Late, LateLength, Within}
use Rattle.edf.specs.Frame.{CommonMultiple}
use Rattle.edf.proofs.Blocks.{due_mono, due_frame, due_reaches}
use Rattle.edf.proofs.Line.{skipped}

-- More blocks due never cost less.
pub cost_mono : (w : Work) {K L : ℕ} → K ≤ L → cost w K ≤ cost w L
unfolding cost fewest
cost_mono w {K} {L} h = sum_mono _ _ w.actors
    (λ v l. mul-le-mul_left (w.time v) (omega (arith, mul-le-mul_right (w.repetition v) h)))

-- f blocks more cost at most f whole iterations more.
pub cost_more : (w : Work) (K f : ℕ) → cost w (K + f) ≤ cost w K + f * iteration w
unfolding cost iteration fewest
cost_more w K f = rw (← sum_scale f)
    (sum_mono_add _ _ _ w.actors (λ v l.
    let more : (K + f) * w.repetition v - w.skip v ≤ K * w.repetition v - w.skip v + f * w.repetition v = omega arith in
    omega (arith, mul-le-mul_left (w.time v) more)))

cost_at_least : (w : Work) (K : ℕ) → K * iteration w ≤ cost w K + skipped w
unfolding cost iteration fewest
cost_at_least w K = rw (← sum_scale K)
    (sum_mono_add _ _ _ w.actors (λ v l.
    let less : K * w.repetition v ≤ K * w.repetition v - w.skip v + w.skip v = omega arith in
    omega (arith, mul-le-mul_left (w.time v) less)))

-- Demand never falls.
pub demand_mono : (ws : Works) {t u : ℕ} → t ≤ u → demand ws t ≤ demand ws u
unfolding demand blocks
demand_mono ws h = sum_mono _ _ ws.graphs
    (λ i l. cost_mono (ws.work i) (due_mono (ws.work i).period (ws.work i).deadline h))

-- If demand at t is at most u, no length from u to t is late.
pub jump : (ws : Works) {t u : ℕ} → demand ws t ≤ u → u ≤ t → demand ws u ≤ u
jump ws d h = le_trans (demand_mono ws h) d

-- No two lengths are both the smallest late one.
pub late_one : (ws : Works) {t u : ℕ} → LateLength ws t → LateLength ws u → t ≡ u
late_one ws {t} {u} a b = ⊎_elim
    (λ h. absurd (b.smallest t h a.late))
    (λ h. ⊎_elim (λ e. sym e) (λ l. absurd (a.smallest u l b.late)) (eq-or-lt_of_le h))
    (lt_or_ge t u)

-- Demand is within every length below n.
abbrev pub WithinBelow : Works → ℕ → Type 0
WithinBelow ws n = (t : ℕ) → t < n → demand ws t ≤ t

below_next : (ws : Works) (n : ℕ) → WithinBelow ws n → demand ws n ≤ n → WithinBelow ws (suc n)
below_next ws n below h t l = ⊎_elim (λ (e : t ≡ n). rw e h) (below t) (eq-or-lt_of_le (le_of_suc-le-suc l))

late_next : (ws : Works) (n : ℕ) → WithinBelow ws n → Late ws n → LateLength ws n
late_next ws n below h = record { late = h; smallest = λ u l g. omega (arith, below u l) }

first_late : (ws : Works) (n : ℕ) → ((t : ℕ) × LateLength ws t) ⊎ WithinBelow ws n
first_late ws zero = inr (λ t h. omega arith)
first_late ws (suc n) = ⊎_elim inl
    (λ below. ⊎_map (λ h. (n, late_next ws n below h)) (below_next ws n below) (lt_or_ge n (demand ws n)))
    (first_late ws n)

module _ (ws : Works) {F : ℕ} (m : CommonMultiple ws.graphs (λ i. (ws.work i).period) F) where
  -- A frame more of length adds at most the frame load.
  pub demand_frame : (t : ℕ) → demand ws (t + F) ≤ demand ws t + load ws F
  unfolding demand load blocks
  demand_frame t = sum_mono_add _ _ _ ws.graphs (λ i l.
      let w = ws.work i in
      le_trans
      (cost_mono w (due_frame w.period w.deadline t (pos_of_dvd_of_pos (m.multiple i l) m.positive) (m.multiple i l)))
      (cost_more w (blocks w t) (F / w.period)))

  load_bound : (n : ℕ) {t : ℕ} → sum_to (λ i. (ws.work i).deadline) ws.graphs + n * F ≤ t
      → n * load ws F ≤ demand ws t + sum_to (λ i. skipped (ws.work i)) ws.graphs
  unfolding demand load blocks
  load_bound n {t} h = rw (← sum_scale n) (sum_mono_add _ _ _ ws.graphs (λ i l.
      let w = ws.work i in
      let d = m.multiple i l in
      let K = n * (F / w.period) in
      let whole = ap (λ (x : ℕ). n * x) (div-mul_cancel w.period d) in
      let soon = term_le_sum (λ j. (ws.work j).deadline) ws.graphs i l in
      let K-due = (due_reaches w.period w.deadline K t (pos_of_dvd_of_pos d m.positive)).1 (omega arith) in
      omega (arith, cost_at_least w K, cost_mono w K-due)))

  -- A load above the frame makes some length late.
  pub overload_late : F < load ws F → (t : ℕ) × Late ws t
  overload_late h =
      let D = sum_to (λ i. (ws.work i).deadline) ws.graphs in
      let n = D + sum_to (λ i. skipped (ws.work i)) ws.graphs + 1 in
      (D + n * F, omega (arith, load_bound n (le_refl (D + n * F)), mul-le-mul_left n h))

  module _ (fits : load ws F ≤ F) where
    within_frames : WithinBelow ws F → (r n : ℕ) → r < F → demand ws (r + n * F) ≤ r + n * F
    within_frames below r zero h = rw (zero-mul F, add-zero r) (below r h)
    within_frames below r (suc n) h = rw (suc-mul n F, ← add_assoc r (n * F) F)
        (omega (arith, demand_frame (r + n * F), within_frames below r n h))

    -- If demand is within every length below the frame, it is within every length.
    pub within_from_frame : WithinBelow ws F → Within ws
    within_from_frame below t = rw (mod-add-div' t F) at (within_frames below (t % F) (t / F) (mod-lt t m.positive))

    -- Demand is within every length exactly if it is within every length below the frame.
    pub within_exactly : WithinBelow ws F ↔ Within ws
    within_exactly = (within_from_frame, λ all t h. all t)

    -- The smallest late length is below the frame.
    pub late_below_frame : {t : ℕ} → LateLength ws t → t < F
    late_below_frame {t} a = ⊎_elim
        (λ h. h)
        (λ (h : F ≤ t).
        let step = rw (sub-add_cancel h) at (demand_frame (t - F)) in
        absurd (a.smallest (t - F) (omega (arith, m.positive)) (omega (arith, a.late))))
        (lt_or_ge t F)

    -- Either there is a smallest late length or demand is within every length.
    pub late_or_within : ((t : ℕ) × LateLength ws t) ⊎ Within ws
    late_or_within = ⊎_map (λ a. a) within_from_frame (first_late ws F)
