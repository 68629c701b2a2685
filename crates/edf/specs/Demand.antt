-- 01, Demand, Frame load and the verdict's lengths.
use Rattle.std.specs.Prelude.{ℕ, ◌*◌, ◌/◌, ◌<◌, ◌≤◌}
use Rattle.sdf.specs.Sum.{sum_to}
use Rattle.sdf.specs.Skip.{fewest}
use Rattle.edf.specs.Arrivals.{due}

-- What demand sees of one graph: its period T and deadline D, and for each actor the worst-case time, the repetition number
-- and the skip.
pub record Work : Type 0 where
  pub period : ℕ
  pub deadline : ℕ
  pub actors : ℕ
  pub time : ℕ → ℕ
  pub repetition : ℕ → ℕ
  pub skip : ℕ → ℕ

-- The graphs of a sheet; `work i` counts for i below `graphs`.
pub record Works : Type 0 where
  pub graphs : ℕ
  pub work : ℕ → Work

-- 01, Demand: one graph's part for K blocks due: over its actors, worst-case time × fewest firings for K.
unfoldable pub cost : Work → ℕ → ℕ
cost w K = sum_to (λ v. w.time v * fewest w.repetition w.skip K v) w.actors

unfoldable pub blocks : Work → ℕ → ℕ
blocks w t = due w.period w.deadline t

-- 01, Demand at length t: over all graphs, the cost of that graph's blocks due.
unfoldable pub demand : Works → ℕ → ℕ
demand ws t = sum_to (λ i. cost (ws.work i) (blocks (ws.work i) t)) ws.graphs

-- The time of one whole iteration: over the actors, worst-case time × repetition.
unfoldable pub iteration : Work → ℕ
iteration w = sum_to (λ v. w.time v * w.repetition v) w.actors

-- 01, Frame load: over all graphs, (frame / T) × the time of an iteration.
unfoldable pub load : Works → ℕ → ℕ
load ws frame = sum_to (λ i. frame / (ws.work i).period * iteration (ws.work i)) ws.graphs

-- 01, answer 21: demand is above the length t.
abbrev pub Late : Works → ℕ → Type 0
Late ws t = t < demand ws t

-- The length that answer 21 names: late, and no smaller one is.
pub record LateLength (ws : Works) (t : ℕ) : Type 0 where
  pub late : Late ws t
  pub smallest : (u : ℕ) → u < t → ¬ Late ws u

-- 01, answer 0: demand is within every whole length from zero, without end.
abbrev pub Within : Works → Type 0
Within ws = (t : ℕ) → demand ws t ≤ t
