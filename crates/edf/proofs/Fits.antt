-- 01, Bounds: within them every sum fits 64 bits.
use Prim.Native.Nat.{ℕ, ◌+◌, ◌-◌, ◌*◌, ◌/◌, ◌%◌, ◌^◌, ◌<◌, ◌≤◌}
use native.Mathlib.Nat.{le_refl, le_trans, lt_of_lt_of_le, lt_of_le_of_lt, le_of_lt, mul_comm, mul-le-mul, mul-le-mul_left, mul-le-mul_right}
use native.Mathlib.Nat.{sub-le, mod-lt, div-le_self, div-le_of_le-mul}
use native.Mathlib.Omega.{arith}
use lib.Dec.{lit<}
use Rattle.units.specs.Bounds.{engine_actors, max_outputs, max_repetition, max_ticks, max_time, max_tokens}
use Rattle.sdf.specs.Sum.{sum_to}
use Rattle.sdf.specs.Skip.{fewest}
use Rattle.sdf.proofs.Sum.{sum_bound}
use Rattle.edf.specs.Demand.{Work, Works, cost, blocks, demand, iteration, load}
use Rattle.edf.specs.Bounds.{Bounded, AllBounded}
use Rattle.edf.proofs.Blocks.{due_at_most}

-- At most N terms of at most b each.
sum_at_most : (f : ℕ → ℕ) {n N b : ℕ} → n ≤ N → ((i : ℕ) → i < n → f i ≤ b) → sum_to f n ≤ N * b
sum_at_most f {n} {N} {b} l e = le_trans (sum_bound f n b e) (mul-le-mul_right b l)

-- At most N products of at most a × b each.
products_at_most : (f h : ℕ → ℕ) {n N a b : ℕ} → n ≤ N → ((i : ℕ) → i < n → f i ≤ a) → ((i : ℕ) → i < n → h i ≤ b)
    → sum_to (λ i. f i * h i) n ≤ N * (a * b)
products_at_most f h l x y = sum_at_most (λ i. f i * h i) l (λ i m. mul-le-mul (x i m) (y i m))

-- The part of `cost` for the first n actors.
abbrev pub cost_to : Work → ℕ → ℕ → ℕ
cost_to w K n = sum_to (λ v. w.time v * fewest w.repetition w.skip K v) n

-- The part of `iteration` for the first n actors.
abbrev pub iteration_to : Work → ℕ → ℕ
iteration_to w n = sum_to (λ v. w.time v * w.repetition v) n

-- The time of the skipped firings of the first n actors.
abbrev pub skipped_to : Work → ℕ → ℕ
skipped_to w n = sum_to (λ v. w.time v * w.skip v) n

-- The part of `demand` for the first n graphs.
abbrev pub demand_to : Works → ℕ → ℕ → ℕ
demand_to ws t n = sum_to (λ i. cost (ws.work i) (blocks (ws.work i) t)) n

-- The part of `load` for the first n graphs.
abbrev pub load_to : Works → ℕ → ℕ → ℕ
load_to ws frame n = sum_to (λ i. frame / (ws.work i).period * iteration (ws.work i)) n

-- The numbers of actor v's tasks fit.
pub record TasksFit (w : Work) (v : ℕ) : Type 0 where
  pub first_cost : (w.repetition v - w.skip v % w.repetition v) * w.time v < 2 ^ 64
  pub first_deadline : w.skip v / w.repetition v * w.period + w.deadline < 2 ^ 64
  pub second_cost : w.skip v % w.repetition v * w.time v < 2 ^ 64
  pub second_deadline : (w.skip v / w.repetition v + 1) * w.period + w.deadline < 2 ^ 64
  pub period : w.period < 2 ^ 64

module _ {w : Work} (g : Bounded w) where
  -- Over the first actors, time × a number of at most b.
  work_at_most : (h : ℕ → ℕ) {n b : ℕ} → n ≤ w.actors → ((v : ℕ) → v < w.actors → h v ≤ b)
      → sum_to (λ v. w.time v * h v) n ≤ engine_actors * (max_time * b)
  work_at_most h l e = products_at_most w.time h (le_trans l g.actors)
      (λ v m. g.time v (lt_of_lt_of_le m l)) (λ v m. e v (lt_of_lt_of_le m l))

  -- The cost of the first actors for K outputs is at most what it is with every number at its bound.
  pub cost_at_most : {K n : ℕ} → K ≤ max_outputs → n ≤ w.actors
      → cost_to w K n ≤ engine_actors * (max_time * (max_outputs * max_repetition))
  unfolding fewest
  cost_at_most {K} k l = work_at_most (fewest w.repetition w.skip K) l
      (λ v m. le_trans (sub-le (K * w.repetition v) (w.skip v)) (mul-le-mul k (g.repetition_high v m)))

  -- So is the time of the first actors in an iteration.
  pub iteration_at_most : {n : ℕ} → n ≤ w.actors → iteration_to w n ≤ engine_actors * (max_time * max_repetition)
  iteration_at_most l = work_at_most w.repetition l g.repetition_high

  -- K × repetition, from which the skip is taken off, fits.
  pub fits_fewest : {K v : ℕ} → K ≤ max_outputs → v < w.actors → K * w.repetition v < 2 ^ 64
  fits_fewest {v = v} k m = lt_of_le_of_lt (mul-le-mul k (g.repetition_high v m)) (lit< tt)

  -- The cost for K outputs fits, after each actor.
  pub fits_cost_to : {K n : ℕ} → K ≤ max_outputs → n ≤ w.actors → cost_to w K n < 2 ^ 64
  fits_cost_to k l = lt_of_le_of_lt (cost_at_most k l) (lit< tt)

  -- The cost for K outputs fits.
  pub fits_cost : {K : ℕ} → K ≤ max_outputs → cost w K < 2 ^ 64
  unfolding cost
  fits_cost k = fits_cost_to k (le_refl w.actors)

  -- The time of an iteration fits, after each actor.
  pub fits_iteration_to : {n : ℕ} → n ≤ w.actors → iteration_to w n < 2 ^ 64
  fits_iteration_to l = lt_of_le_of_lt (iteration_at_most l) (lit< tt)

  -- The time of an iteration fits.
  pub fits_iteration : iteration w < 2 ^ 64
  unfolding iteration
  fits_iteration = fits_iteration_to (le_refl w.actors)

  -- K iterations fit.
  pub fits_iterations : {K : ℕ} → K ≤ max_outputs → K * iteration w < 2 ^ 64
  unfolding iteration
  fits_iterations k = lt_of_le_of_lt (mul-le-mul k (iteration_at_most (le_refl w.actors))) (lit< tt)

  -- The time of the skipped firings fits, after each actor.
  pub fits_skipped : {n : ℕ} → n ≤ w.actors → skipped_to w n < 2 ^ 64
  fits_skipped l = lt_of_le_of_lt (work_at_most w.skip l
      (λ v m. le_trans (g.skip v m) (mul-le-mul_left (engine_actors * max_tokens) (g.repetition_high v m)))) (lit< tt)

  -- Every number of an actor's tasks fits.
  pub fits_tasks : {v : ℕ} → v < w.actors → TasksFit w v
  fits_tasks {v} m = record {
    first_cost = costs (sub-le q (s % q));
    first_deadline = omega (arith, deadline);
    second_cost = costs (le_of_lt (mod-lt s (g.repetition_low v m)));
    second_deadline = omega (arith, deadline);
    period = omega arith;
  }
    where
      q : ℕ
      q = w.repetition v

      s : ℕ
      s = w.skip v

      costs : {x : ℕ} → x ≤ q → x * w.time v < 2 ^ 64
      costs l = lt_of_le_of_lt (mul-le-mul (le_trans l (g.repetition_high v m)) (g.time v m)) (lit< tt)

      most : ℕ
      most = engine_actors * max_tokens

      deadline : s / q * w.period ≤ most * max_ticks
      deadline = mul-le-mul (div-le_of_le-mul q {n = most} (rw (mul_comm q most) (g.skip v m))) g.period_high

module _ {ws : Works} (g : AllBounded ws) where
  -- Demand fits, after each graph.
  pub fits_demand_to : {t n : ℕ} → t ≤ max_ticks → n ≤ ws.graphs → demand_to ws t n < 2 ^ 64
  unfolding cost blocks
  fits_demand_to {t} l k = lt_of_le_of_lt (sum_at_most (λ i. cost (ws.work i) (blocks (ws.work i) t)) (le_trans k g.graphs) (λ i m.
      let b = g.work i (lt_of_lt_of_le m k) in
      cost_at_most b (le_trans (due_at_most (ws.work i).period (ws.work i).deadline t b.deadline_low) l) (le_refl (ws.work i).actors))) (lit< tt)

  -- Demand fits.
  pub fits_demand : {t : ℕ} → t ≤ max_ticks → demand ws t < 2 ^ 64
  unfolding demand
  fits_demand l = fits_demand_to l (le_refl ws.graphs)

  -- The frame load fits, after each graph.
  pub fits_load_to : {frame n : ℕ} → frame ≤ max_ticks → n ≤ ws.graphs → load_to ws frame n < 2 ^ 64
  unfolding iteration
  fits_load_to {frame} l k = lt_of_le_of_lt (products_at_most (λ i. frame / (ws.work i).period) (λ i. iteration (ws.work i))
      (le_trans k g.graphs) (λ i m. le_trans (div-le_self frame (ws.work i).period) l)
      (λ i m. iteration_at_most (g.work i (lt_of_lt_of_le m k)) (le_refl (ws.work i).actors))) (lit< tt)

  -- The frame load fits.
  pub fits_load : {frame : ℕ} → frame ≤ max_ticks → load ws frame < 2 ^ 64
  unfolding load
  fits_load l = fits_load_to l (le_refl ws.graphs)
