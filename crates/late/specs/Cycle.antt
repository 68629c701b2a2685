-- 01, answer 21, where it takes many looks: what a table over one cycle of the short periods says.
use Rattle.std.specs.Prelude.{◌≡◌, ◌⊎◌, List, ℕ, ◌+◌, ◌*◌, ◌/◌, ◌%◌, ◌<◌, ◌≤◌, min, length, get_or, take}
use Rattle.std.specs.Int.{◌∣◌}
use Rattle.edf.specs.Demand.{Works, demand}
use Rattle.demand.specs.Lent.{no_head, works_of, Lent}
use Rattle.demand.specs.Rows.{works_in}
use Rattle.demand.specs.declared.rows.Head.{Head}
use Rattle.demand.specs.declared.rows.Rows.{Rows}
use Rattle.piece.specs.Pieces.{Pieces}
use Rattle.late.specs.declared.cycle.Table.{Table}

-- The longest cycle that has a table.
abbrev pub max_cycle : ℕ
max_cycle = 2048

-- All actors of a graph whose period divides the cycle; or none.
abbrev pub Parting : Head → (cycle actors : ℕ) → Type 0
Parting head cycle actors = ((actors ≡ head.actors) × (head.period.n ∣ cycle)) ⊎ (actors ≡ 0)

-- Two parts of a graph. Both have its period and deadline, and one of them has all its actors: `short` only if the period divides the
-- cycle.
pub record Parts (cycle : ℕ) (head short long : Head) : Type 0 where
  pub short_period : short.period.n ≡ head.period.n
  pub short_deadline : short.deadline.n ≡ head.deadline.n
  pub long_period : long.period.n ≡ head.period.n
  pub long_deadline : long.deadline.n ≡ head.deadline.n
  pub parting : Parting head cycle short.actors
  pub both : short.actors + long.actors ≡ head.actors

-- The first n graphs are in parts.
abbrev pub Parted : (cycle n : ℕ) → (heads short long : List Head) → Type 0
Parted cycle n heads short long = (i : ℕ) → i < n → Parts cycle (get_or heads i no_head) (get_or short i no_head) (get_or long i no_head)

-- The table: from each length of the cycle on to its end, demand leaves at least what stands there.
abbrev pub Floors : Works → ℕ → List ℕ → Type 0
Floors ws cycle floors = (a t : ℕ) → a ≤ t → t < cycle → demand ws t + get_or floors a 0 ≤ t

-- What the table says of the lengths from `a` on: each whole cycle before leaves `rest`, and then this cycle or a later one follows.
abbrev pub floor_at : (cycle rest : ℕ) → List ℕ → ℕ → ℕ
floor_at cycle rest floors a = a / cycle * rest + min (get_or floors (a % cycle) 0) (rest + get_or floors 0 0)

-- The graphs as the table leaves them: those of the short periods have no actors.
abbrev pub long_heads : Rows → Table → List Head
long_heads rows t = take (length rows.heads.now) t.long

abbrev pub long_works : Rows → Table → Works
long_works rows t = works_of (long_heads rows t) rows.actors.now rows.room

-- The table serves: from `a` on the sheet without the graphs of the long periods leaves what the table says.
pub record Eased (rows : Rows) (t : Table) : Type 0 where
  pub lent : Lent (long_heads rows t) rows.actors.now rows.room
  pub known : Pieces (long_works rows t) t.spans
  pub cycle_low : 0 < t.cycle.n
  pub cycle_high : t.cycle.n ≤ max_cycle
  pub there : t.cycle.n ≤ length t.floors.now
  pub rest_high : t.rest.n ≤ t.cycle.n
  pub leaves : (a u : ℕ) → a ≤ u → demand (works_in rows) u + floor_at t.cycle.n t.rest.n t.floors.now a ≤ u + demand (long_works rows t) u
