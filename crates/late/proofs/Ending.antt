-- 01, answer 21: the length from which on demand is within by a bound that needs no rounding.
use mathlib.Core.Path.{◌≡◌, ap, refl}
use mathlib.Core.Logic.{inl, inr, ⊎_elim}
use Prim.Native.Nat.{ℕ, zero, suc, ◌+◌, ◌*◌, ◌-◌, ◌/◌, ◌%◌, ◌^◌, ◌<◌, ◌≤◌, min}
use native.Mathlib.Nat.{le_refl, le_trans, le_of_lt, sub-le, mul-le-mul, mul-le-mul_left, mul-le-mul_right, lt_of_mul-lt-mul_left, lt_of_le_of_lt}
use native.Mathlib.Nat.{le-div_iff_mul-le, le_of_dvd, mod-lt, mod-add-div', zero-mul, suc-mul, add-zero, add_assoc}
use native.Mathlib.Nat.{div-mul_cancel, pos_of_dvd_of_pos, lt-mul-div-succ, min-eq_left, min-eq_right, eq-or-lt_of_le, le_of_suc-le-suc}
use native.Mathlib.Omega.{arith}
use lib.Dec.{lit<}
use Rattle.units.specs.Bounds.{max_ticks}
use Rattle.sdf.specs.Sum.{sum_to}
use Rattle.sdf.specs.Skip.{fewest}
use Rattle.sdf.proofs.Numbers.{lt_or_ge, sub_mul}
use Rattle.sdf.proofs.Sum.{sum_mono, sum_mono_add, sum_scale, term_le_sum}
use Rattle.edf.specs.Bounds.{AllBounded}
use Rattle.edf.specs.Demand.{Work, Works, cost, blocks, demand, iteration, load, Within}
use Rattle.edf.proofs.Blocks.{due_frame, due_reaches}
use Rattle.edf.proofs.Demand.{WithinBelow, cost_mono, cost_more}
use Rattle.late.specs.Search.{Carries, graph_surplus, End, SearchEnd}
use Rattle.demand.proofs.Sums.{Added, added}

-- K blocks cost at most K whole iterations.
pub cost_under : (w : Work) (K : ℕ) → cost w K ≤ K * iteration w
unfolding cost iteration fewest
cost_under w K = rw (← sum_scale K) (sum_mono _ _ w.actors (λ v l.
    omega (arith, mul-le-mul_left (w.time v) (sub-le (K * w.repetition v) (w.skip v)))))

-- Over all graphs, the share in the frame load × (T − D), or 0 where that is negative.
abbrev pub slack : Works → ℕ → ℕ
slack ws F = sum_to (graph_surplus ws F) ws.graphs

-- One graph's demand, scaled by the frame, is at most its share × length and its part of the slack.
share_bound : (w : Work) (f t : ℕ) → 0 < w.period
    → f * w.period * cost w (blocks w t) ≤ t * (f * iteration w) + f * iteration w * (w.period - w.deadline)
unfolding blocks
share_bound w f t p =
    let K = blocks w t in
    let room : K * w.period ≤ t + (w.period - w.deadline) = omega (arith, (due_reaches w.period w.deadline K t p).0 (le_refl K)) in
    omega (arith, mul-le-mul_left (f * iteration w) room, mul-le-mul_left (f * w.period) (cost_under w K))

-- A graph whose iteration takes no time asks for nothing.
cost_none : (w : Work) → iteration w ≡ 0 → (K : ℕ) → cost w K ≡ 0
cost_none w z K = omega (arith, cost_under w K, ap (λ (x : ℕ). K * x) z)

-- The frame of the search is within the bound of ticks.
pub span_high : {ws : Works} {G F : ℕ} → Carries ws G F → 0 < G → G ≤ max_ticks → F ≤ max_ticks
span_high m z h = le_trans (le_of_dvd z m.divides) h

module _ (ws : Works) {G F : ℕ} (m : Carries ws G F) where
  -- Its load is within it if that of the frame is.
  pub span_fits : 0 < G → load ws G ≤ G → load ws F ≤ F
  unfolding load
  span_fits p h =
      let k = G / F in
      let whole : k * F ≡ G = div-mul_cancel F m.divides in
      let parts : k * load ws F ≤ load ws G = rw (← sum_scale k) (sum_mono _ _ ws.graphs (λ i l.
      let w = ws.work i in
      ⊎_elim
      (λ d.
      let e = div-mul_cancel w.period d in
      let more = (le-div_iff_mul-le {x = k * (F / w.period)} {y = G} (pos_of_dvd_of_pos d m.positive)).1
      (omega (arith, ap (λ (x : ℕ). k * x) e)) in
      omega (arith, mul-le-mul_right (iteration w) more))
      (λ z. rw z (omega arith))
      (m.each i l))) in
      let some : 1 ≤ k = (le-div_iff_mul-le {x = 1} {y = G} m.positive).1 (omega (arith, le_of_dvd p m.divides)) in
      let below : k * load ws F < k * (F + 1) = omega arith in
      omega (arith, lt_of_mul-lt-mul_left k below)

  -- Frame × demand is at most load × length and the slack.
  demand_bound : (t : ℕ) → F * demand ws t ≤ t * load ws F + slack ws F
  unfolding demand load
  demand_bound t = rw (← sum_scale F, ← sum_scale t) (sum_mono_add _ _ _ ws.graphs (λ i l.
      let w = ws.work i in
      ⊎_elim
      (λ d. rw (div-mul_cancel w.period d) at (share_bound w (F / w.period) t (pos_of_dvd_of_pos d m.positive)))
      (λ z. rw (cost_none w z (blocks w t)) (omega arith))
      (m.each i l)))

  -- A frame more of length adds at most the frame load.
  pub demand_span : (t : ℕ) → demand ws (t + F) ≤ demand ws t + load ws F
  unfolding demand load blocks
  demand_span t = sum_mono_add _ _ _ ws.graphs (λ i l.
      let w = ws.work i in
      ⊎_elim
      (λ d. le_trans
      (cost_mono w (due_frame w.period w.deadline t (pos_of_dvd_of_pos d m.positive) d))
      (cost_more w (blocks w t) (F / w.period)))
      (λ z. rw (cost_none w z) (omega arith))
      (m.each i l))

  module _ (fits : load ws F ≤ F) where
    within_from : {e : ℕ} → load ws F * e + slack ws F < F * (e + 1) → (t : ℕ) → e ≤ t → demand ws t ≤ t
    within_from {e} h t l =
        let d = t - e in
        let whole : t ≡ d + e = omega arith in
        let below : F * demand ws t < F * (t + 1) =
        omega (arith, demand_bound t, mul-le-mul_right d fits, ap (λ (x : ℕ). F * x) whole, ap (λ (x : ℕ). x * load ws F) whole) in
        omega (arith, lt_of_mul-lt-mul_left F below)

    within_spans : WithinBelow ws F → (r n : ℕ) → r < F → demand ws (r + n * F) ≤ r + n * F
    within_spans below r zero h = rw (zero-mul F, add-zero r) (below r h)
    within_spans below r (suc n) h = rw (suc-mul n F, ← add_assoc r (n * F) F)
        (omega (arith, demand_span (r + n * F), within_spans below r n h))

    within_from_span : WithinBelow ws F → Within ws
    within_from_span below t = rw (mod-add-div' t F) at (within_spans below (t % F) (t / F) (mod-lt t m.positive))

    -- If demand is within every length below the end, it is within every length.
    pub end_enough : {e : ℕ} → End F (load ws F) (slack ws F) e → WithinBelow ws e → Within ws
    end_enough {e} h below t = ⊎_elim
        (λ (q : e ≡ F). within_from_span (rw q at below) t)
        (λ more. ⊎_elim (below t) (within_from more t) (lt_or_ge t e))
        h.enough

-- The frame itself is an end.
pub end_frame : {F load L : ℕ} → End F load L F
end_frame = record { high = le_refl _; enough = inl refl }

-- With a load below the frame the end is at most (surplus − frame) / (frame − load), rounded down, plus 1.
pub end_least : {F load L : ℕ} → load < F → F ≤ L → End F load L (min F ((L - F) / (F - load) + 1))
end_least {F} {load} {L} l f = ⊎_elim
    (λ h. rw (min-eq_right {n = e} {m = F} (le_of_lt h)) (record { high = le_of_lt h; enough = inr enough }))
    (λ h. rw (min-eq_left {n = F} {m = e} h) end_frame)
    (lt_or_ge e F)
  where
    e : ℕ
    e = (L - F) / (F - load) + 1

    enough : load * e + L < F * (e + 1)
    enough = omega (arith, lt-mul-div-succ (L - F) {b = F - load} (omega arith), sub_mul F load e, mul-le-mul_right e (le_of_lt l))

-- The first terms of a sum are at most the sum.
first_terms : (f : ℕ → ℕ) (n i : ℕ) → i ≤ n → sum_to f i ≤ sum_to f n
unfolding sum_to
first_terms f zero zero l = le_refl 0
first_terms f zero (suc i) l = omega arith
first_terms f (suc n) i l = ⊎_elim
    (λ (e : i ≡ suc n). rw e (le_refl _))
    (λ h. omega (arith, first_terms f n i (le_of_suc-le-suc h)))
    (eq-or-lt_of_le l)

-- What one graph adds to a load within the bound of ticks is within it too.
pub share_high : (ws : Works) (F : ℕ) → load ws F ≤ max_ticks → (i : ℕ) → i < ws.graphs
    → F / (ws.work i).period * iteration (ws.work i) ≤ max_ticks
unfolding load
share_high ws F h i l = le_trans (term_le_sum (λ k. F / (ws.work k).period * iteration (ws.work k)) ws.graphs i l) h

spare_high : (ws : Works) → AllBounded ws → (i : ℕ) → i < ws.graphs → (ws.work i).period - (ws.work i).deadline ≤ max_ticks
spare_high ws b i l = le_trans (sub-le _ _) (b.work i l).period_high

module _ (ws : Works) (F : ℕ) (b : AllBounded ws) (h : load ws F ≤ max_ticks) where
  -- A graph's surplus fits.
  pub surplus_fits : (i : ℕ) → i < ws.graphs → graph_surplus ws F i < 2 ^ 64
  surplus_fits i l = lt_of_le_of_lt (mul-le-mul (share_high ws F h i l) (spare_high ws b i l)) (lit< tt)

  surplus_high : (i : ℕ) → i ≤ ws.graphs → sum_to (graph_surplus ws F) i ≤ max_ticks * max_ticks
  unfolding load
  surplus_high i l =
      let share : ℕ → ℕ = λ k. F / (ws.work k).period * iteration (ws.work k) in
      le_trans
      (sum_mono _ (λ j. max_ticks * share j) i (λ j m. omega (arith, mul-le-mul_left (share j) (spare_high ws b j (omega arith)))))
      (rw (sum_scale max_ticks share i) (mul-le-mul_left max_ticks (le_trans (first_terms share ws.graphs i l) h)))

  -- The surplus of a graph is added.
  pub surplus_added : {i x y : ℕ} → i < ws.graphs → x ≡ sum_to (graph_surplus ws F) i → y ≡ graph_surplus ws F i
      → Added (graph_surplus ws F) x y i
  surplus_added {i} l = added (graph_surplus ws F) (omega (arith, surplus_high (i + 1) (omega arith)))

module _ (ws : Works) {G F : ℕ} (m : Carries ws G F) where
  -- The load of the search's frame is within the bound of ticks, as that frame is.
  pub span_load : {L M : ℕ} → 0 < G → L ≡ load ws G → L ≤ G → M ≡ load ws F → M ≤ F
  span_load p a l b = rw b (span_fits ws m p (rw a at l))

  -- The end by that frame, its load and the surplus is one of the search.
  pub search_ends : {M x e : ℕ} → F ≤ max_ticks → M ≡ load ws F → M ≤ F → x ≡ slack ws F → End F M x e → SearchEnd ws e
  search_ends h a l b k = record { high = le_trans k.high h; enough = end_enough ws m (rw a at l) (rw (a, b) at k) }
