-- What the engine of demand is handed: each graph's period, deadline and actor count, and for each graph a row of `room` places. Its
-- actors stand in the first of them.
use Rattle.std.specs.Prelude.{◌≡◌, List, ℕ, ◌+◌, ◌*◌, ◌<◌, ◌≤◌, length, get_or}
use Rattle.units.specs.Bounds.{engine_actors}
use Rattle.units.specs.declared.Ticks.{Ticks}
use Rattle.edf.specs.Demand.{Work, Works, iteration}
use Rattle.edf.specs.Bounds.{AllBounded}
use Rattle.demand.specs.declared.rows.Head.{Head}
use Rattle.demand.specs.declared.rows.Actor.{Actor}

-- What is said to stand where nothing does.
abbrev pub no_ticks : Ticks
no_ticks = record { n = 0 }

abbrev pub no_head : Head
no_head = record { period = no_ticks; deadline = no_ticks; actors = 0 }

abbrev pub no_actor : Actor
no_actor = record { time = no_ticks; repetition = record { n = 0 }; skip = record { n = 0 } }

abbrev pub work_at : List Head → List Actor → ℕ → ℕ → Work
work_at heads actors room i = record {
  period = (get_or heads i no_head).period.n;
  deadline = (get_or heads i no_head).deadline.n;
  actors = (get_or heads i no_head).actors;
  time = λ v. (get_or actors (room * i + v) no_actor).time.n;
  repetition = λ v. (get_or actors (room * i + v) no_actor).repetition.n;
  skip = λ v. (get_or actors (room * i + v) no_actor).skip.n;
}

abbrev pub works_of : List Head → List Actor → ℕ → Works
works_of heads actors room = record { graphs = length heads; work = work_at heads actors room }

-- The rows are there, and every number is within document 01's bounds.
pub record Lent (heads : List Head) (actors : List Actor) (room : ℕ) : Type 0 where
  pub bounded : AllBounded (works_of heads actors room)
  pub fits : (i : ℕ) → i < length heads → (get_or heads i no_head).actors ≤ room
  pub there : room * length heads ≤ length actors
  pub room_high : room ≤ 3 * engine_actors

-- Each graph's weight is the time of its iteration.
pub record Weighed (ws : Works) (weights : List Ticks) : Type 0 where
  pub weights_there : ws.graphs ≤ length weights
  pub weight : (i : ℕ) → i < ws.graphs → (get_or weights i no_ticks).n ≡ iteration (ws.work i)
