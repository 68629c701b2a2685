-- 01, Task list: plain sporadic tasks with the demand of a graph.
use Rattle.std.specs.Prelude.{cond, List, [], ◌∷◌, ◌++◌, ℕ, zero, suc, ◌+◌, ◌*◌, ◌-◌, ◌/◌, ◌%◌, eqb}
use Rattle.edf.specs.Arrivals.{due}
use Rattle.edf.specs.Demand.{Work}

-- A task asks for `cost` ticks within `deadline` of each release, and its releases are at least `period` apart.
pub record Task : Type 0 where
  pub cost : ℕ
  pub deadline : ℕ
  pub period : ℕ

-- 01, Task list, one actor: with its skip = a × repetition + b and b below the repetition number, (repetition − b) × time due
-- a periods after the deadline D, and, unless b is 0, b × time due one period later still.
unfoldable pub actor_tasks : Work → ℕ → List Task
actor_tasks w v =
    let a = w.skip v / w.repetition v in
    let b = w.skip v % w.repetition v in
    record { cost = (w.repetition v - b) * w.time v; deadline = a * w.period + w.deadline; period = w.period }
    ∷ cond (eqb b 0) [] (record { cost = b * w.time v; deadline = (a + 1) * w.period + w.deadline; period = w.period } ∷ [])

-- 01, Task list of a graph: the actors' tasks in the actors' order.
unfoldable pub tasks_to : Work → ℕ → List Task
tasks_to w zero = []
tasks_to w (suc v) = tasks_to w v ++ actor_tasks w v

unfoldable pub tasks : Work → List Task
tasks w = tasks_to w w.actors

-- What the tasks ask for in length t: each its cost for every release that falls due.
unfoldable pub tasks_demand : List Task → ℕ → ℕ
tasks_demand [] t = 0
tasks_demand (k ∷ ks) t = due k.period k.deadline t * k.cost + tasks_demand ks t

-- 01, Task list as it is handed out: three numbers a task.
unfoldable pub task_numbers : List Task → List ℕ
task_numbers [] = []
task_numbers (k ∷ ks) = k.cost ∷ k.deadline ∷ k.period ∷ task_numbers ks
