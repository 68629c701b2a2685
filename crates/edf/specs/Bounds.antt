-- 01, Bounds, for what demand sees of a graph.
use Rattle.std.specs.Prelude.{ℕ, ◌*◌, ◌<◌, ◌≤◌}
use Rattle.units.specs.Bounds.{engine_actors, max_graphs, max_repetition, max_ticks, max_time, max_tokens}
use Rattle.edf.specs.Demand.{Work, Works}

-- A graph within the engine's bounds. A skip is at most the tokens of as many channels as the graph has actors, for each firing
-- of an iteration.
pub record Bounded (w : Work) : Type 0 where
  pub period_low : 0 < w.period
  pub period_high : w.period ≤ max_ticks
  pub deadline_low : 0 < w.deadline
  pub deadline_high : w.deadline ≤ max_ticks
  pub actors : w.actors ≤ engine_actors
  pub time : (v : ℕ) → v < w.actors → w.time v ≤ max_time
  pub repetition_low : (v : ℕ) → v < w.actors → 0 < w.repetition v
  pub repetition_high : (v : ℕ) → v < w.actors → w.repetition v ≤ max_repetition
  pub skip : (v : ℕ) → v < w.actors → w.skip v ≤ engine_actors * max_tokens * w.repetition v

pub record AllBounded (ws : Works) : Type 0 where
  pub graphs : ws.graphs ≤ max_graphs
  pub work : (i : ℕ) → i < ws.graphs → Bounded (ws.work i)
