-- 01, Task list: its plain sporadic tasks ask for as much as the graph, in every length.
use mathlib.Core.Path.{◌≡◌, ◌∙◌, refl, ap, ap₂}
use mathlib.Core.Bool.{Bool, true, false, cond}
use mathlib.Core.List.{List, [], ◌∷◌, ◌++◌}
use mathlib.Core.Logic.{⊎_elim}
use Prim.Native.Nat.{ℕ, zero, suc, ◌+◌, ◌*◌, ◌-◌, ◌/◌, ◌%◌, ◌<◌, ◌≤◌}
use native.Mathlib.Nat.{div-add-mod', mod-lt, le_of_lt, lt-suc_self, le_step, le_trans, le-add_right, mul-le-mul_right, sub-eq-zero_of_le, sub-add_cancel, zero-mul}
use native.Mathlib.Omega.{arith}
use lib.Dec.{eqb}
use lib.ListN.{length}
use borrow.Author.Tests.{eqb-true}
use Rattle.sdf.specs.Sum.{sum_to}
use Rattle.sdf.specs.Skip.{fewest}
use Rattle.sdf.proofs.Numbers.{lt_or_ge}
use Rattle.edf.specs.Arrivals.{due}
use Rattle.edf.specs.Demand.{Work, cost, blocks}
use Rattle.edf.specs.Tasks.{Task, actor_tasks, tasks_to, tasks, tasks_demand, task_numbers}
use Rattle.edf.proofs.Blocks.{due_later}

-- Two task lists one after the other ask for what each asks for.
pub tasks_demand_append : (ks ls : List Task) (t : ℕ) → tasks_demand (ks ++ ls) t ≡ tasks_demand ks t + tasks_demand ls t
unfolding tasks_demand
tasks_demand_append [] ls t = omega arith
tasks_demand_append (k ∷ ks) ls t = omega (arith, tasks_demand_append ks ls t)

-- The numbers handed out are three a task.
pub task_count : (ks : List Task) → length (task_numbers ks) ≡ 3 * length ks
unfolding task_numbers
task_count [] = refl
task_count (k ∷ ks) = omega (arith, task_count ks)

-- With skip s = a × r + b, K − a blocks of r − b firings and K − (a + 1) blocks of b firings are K × r − s firings.
split_skip : (K a b r s : ℕ) → a * r + b ≡ s → b ≤ r → (K - a) * (r - b) + (K - (a + 1)) * b ≡ K * r - s
split_skip K a b r s e l = ⊎_elim
    (λ (h : a < K).
    let x = K - (a + 1) in
    let past : K - a ≡ x + 1 = omega arith in
    let whole : K ≡ x + a + 1 = omega arith in
    omega (arith, ap (λ (y : ℕ). y * (r - b)) past, ap (λ (y : ℕ). x * y) (sub-add_cancel l), ap (λ (y : ℕ). y * r) whole))
    (λ (h : K ≤ a). rw (sub-eq-zero_of_le h, sub-eq-zero_of_le (le_trans h (le-add_right a 1))) (omega (arith, mul-le-mul_right r h)))
    (lt_or_ge a K)

two_tasks : (k l : Task) (b t : ℕ) → (b ≡ 0 → l.cost ≡ 0)
    → tasks_demand (k ∷ cond (eqb b 0) [] (l ∷ [])) t ≡ due k.period k.deadline t * k.cost + due l.period l.deadline t * l.cost
unfolding tasks_demand
two_tasks k l b t z = go (eqb b 0) refl
  where
    go : (y : Bool) → eqb b 0 ≡ y
        → tasks_demand (k ∷ cond y [] (l ∷ [])) t ≡ due k.period k.deadline t * k.cost + due l.period l.deadline t * l.cost
    go true e = omega (arith, ap (λ (x : ℕ). due l.period l.deadline t * x) (z (eqb-true b 0 e)))
    go false e = omega arith

module _ (w : Work) (p : 0 < w.period) (t : ℕ) where
  actor_demand : (v : ℕ) → 0 < w.repetition v
      → tasks_demand (actor_tasks w v) t ≡ w.time v * fewest w.repetition w.skip (blocks w t) v
  unfolding actor_tasks fewest blocks
  actor_demand v r =
      let a = w.skip v / w.repetition v in
      let b = w.skip v % w.repetition v in
      let split = split_skip (blocks w t) a b _ _ (div-add-mod' (w.skip v) (w.repetition v)) (le_of_lt (mod-lt (w.skip v) r)) in
      two_tasks _ _ b t (λ z. ap (λ (x : ℕ). x * w.time v) z ∙ zero-mul (w.time v))
      ∙ rw (due_later w.period w.deadline a t p, due_later w.period w.deadline (a + 1) t p)
      (omega (arith, ap (λ (x : ℕ). w.time v * x) split))

  tasks_demand_to : (n : ℕ) → ((v : ℕ) → v < n → 0 < w.repetition v)
      → tasks_demand (tasks_to w n) t ≡ sum_to (λ v. w.time v * fewest w.repetition w.skip (blocks w t) v) n
  unfolding tasks_to tasks_demand sum_to
  tasks_demand_to zero r = refl
  tasks_demand_to (suc n) r = tasks_demand_append (tasks_to w n) (actor_tasks w n) t
      ∙ ap₂ ◌+◌ (tasks_demand_to n (λ v l. r v (le_step l))) (actor_demand n (r n (lt-suc_self n)))

-- The task list of a graph asks for the cost of the graph's blocks due, in every length.
pub tasks_same_demand : (w : Work) → 0 < w.period → ((v : ℕ) → v < w.actors → 0 < w.repetition v)
    → (t : ℕ) → tasks_demand (tasks w) t ≡ cost w (blocks w t)
unfolding tasks cost
tasks_same_demand w p r t = tasks_demand_to w p t w.actors r
