-- Two readings of the same graphs: equal counts, periods and deadlines, and equal numbers for each actor that is there. Demand, frame
-- load, verdict and task list see no difference.
use mathlib.Core.Path.{◌≡◌, refl, ap, ap₂, ◌∙◌}
use mathlib.Core.List.{◌++◌}
use Prim.Native.Nat.{ℕ, zero, suc, ◌*◌, ◌/◌, ◌<◌, ◌≤◌}
use native.Mathlib.Nat.{le_refl}
use native.Mathlib.Omega.{arith}
use Rattle.sdf.specs.Skip.{fewest}
use Rattle.sdf.proofs.Sum.{sum_ext}
use Rattle.edf.specs.Demand.{Work, Works, cost, blocks, demand, iteration, load, LateLength, Within}
use Rattle.edf.specs.Bounds.{Bounded}
use Rattle.edf.specs.Frame.{Frame}
use Rattle.edf.specs.Tasks.{tasks, tasks_to, actor_tasks}

-- Two readings of one graph.
pub record SameWork (a b : Work) : Type 0 where
  pub period : a.period ≡ b.period
  pub deadline : a.deadline ≡ b.deadline
  pub actors : a.actors ≡ b.actors
  pub time : (v : ℕ) → v < b.actors → a.time v ≡ b.time v
  pub repetition : (v : ℕ) → v < b.actors → a.repetition v ≡ b.repetition v
  pub skip : (v : ℕ) → v < b.actors → a.skip v ≡ b.skip v

-- Two readings of the graphs of a sheet.
pub record Same (xs ys : Works) : Type 0 where
  pub graphs : xs.graphs ≡ ys.graphs
  pub work : (i : ℕ) → i < ys.graphs → SameWork (xs.work i) (ys.work i)

module _ {a b : Work} (s : SameWork a b) where
  cost_same : (K : ℕ) → cost a K ≡ cost b K
  unfolding cost fewest
  cost_same K = rw s.actors (sum_ext _ _ b.actors (λ v h. rw (s.time v h, s.repetition v h, s.skip v h)))

  blocks_same : (t : ℕ) → blocks a t ≡ blocks b t
  unfolding blocks
  blocks_same t = rw (s.period, s.deadline)

  iteration_same : iteration a ≡ iteration b
  unfolding iteration
  iteration_same = rw s.actors (sum_ext _ _ b.actors (λ v h. rw (s.time v h, s.repetition v h)))

  tasks_to_same : (n : ℕ) → n ≤ b.actors → tasks_to a n ≡ tasks_to b n
  unfolding tasks_to actor_tasks
  tasks_to_same zero h = refl
  tasks_to_same (suc n) h =
      ap₂ ◌++◌ (tasks_to_same n (omega arith)) (rw (s.period, s.deadline, s.time n h, s.repetition n h, s.skip n h))

  -- They have the same task list.
  pub tasks_same : tasks a ≡ tasks b
  unfolding tasks
  tasks_same = ap (tasks_to a) s.actors ∙ tasks_to_same b.actors (le_refl b.actors)

  -- They are within the same bounds.
  pub bounded_same : Bounded b → Bounded a
  bounded_same g =
      record {
        period_low = rw s.period g.period_low;
        period_high = rw s.period g.period_high;
        deadline_low = rw s.deadline g.deadline_low;
        deadline_high = rw s.deadline g.deadline_high;
        actors = rw s.actors g.actors;
        time = λ v h. let m : v < b.actors = omega (arith, s.actors) in rw (s.time v m) (g.time v m);
        repetition_low = λ v h. let m : v < b.actors = omega (arith, s.actors) in rw (s.repetition v m) (g.repetition_low v m);
        repetition_high = λ v h. let m : v < b.actors = omega (arith, s.actors) in rw (s.repetition v m) (g.repetition_high v m);
        skip = λ v h. let m : v < b.actors = omega (arith, s.actors) in rw (s.skip v m, s.repetition v m) (g.skip v m);
      }

module _ {xs ys : Works} (s : Same xs ys) where
  -- They have the same demand at every length.
  pub demand_same : (t : ℕ) → demand xs t ≡ demand ys t
  unfolding demand
  demand_same t = rw s.graphs
      (sum_ext _ _ ys.graphs (λ i h. cost_same (s.work i h) _ ∙ ap (cost (ys.work i)) (blocks_same (s.work i h) t)))

  -- They have the same frame load.
  pub load_same : (F : ℕ) → load xs F ≡ load ys F
  unfolding load
  load_same F = rw s.graphs (sum_ext _ _ ys.graphs (λ i h. ap₂ (λ (T K : ℕ). F / T * K) (s.work i h).period (iteration_same (s.work i h))))

  -- They have the same smallest late length.
  pub late_same : {t : ℕ} → LateLength xs t → LateLength ys t
  late_same {t} l = record {
    late = rw (← demand_same t) l.late;
    smallest = λ u h d. l.smallest u h (rw (demand_same u) d);
  }

  -- Demand of both is within every length, or of neither.
  pub within_same : Within xs → Within ys
  within_same w t = rw (← demand_same t) (w t)

-- Equal periods have the same frame.
pub frame_same :
    {n : ℕ} {p q : ℕ → ℕ} {F : ℕ} → ((i : ℕ) → i < n → p i ≡ q i) → Frame n q F → Frame n p F
frame_same {n} {p} {q} {F} e f = record {
  common = record { positive = f.common.positive; multiple = λ i h. rw (e i h) (f.common.multiple i h) };
  least = λ m c. f.least m (record { positive = c.positive; multiple = λ i h. rw (← e i h) (c.multiple i h) });
}
