-- The graphs that the engine of demand is handed.
use Rattle.std.specs.Prelude.{List, ℕ, ◌*◌, take, drop, get_or}
use Rattle.edf.specs.Demand.{Work, Works}
use Rattle.demand.specs.Lent.{no_head, work_at, works_of}
use Rattle.demand.specs.declared.rows.Rows.{Rows}
use Rattle.demand.specs.declared.rows.Actor.{Actor}

abbrev pub works_in : Rows → Works
works_in rows = works_of rows.heads.now rows.actors.now rows.room

abbrev pub work_in : Rows → ℕ → Work
work_in rows i = work_at rows.heads.now rows.actors.now rows.room i

-- The actors of graph i.
abbrev pub actors_in : Rows → ℕ → List Actor
actors_in rows i = take (get_or rows.heads.now i no_head).actors (drop (rows.room * i) rows.actors.now)
