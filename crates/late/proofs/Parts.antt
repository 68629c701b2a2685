-- 01, answer 21: the graphs in two parts, those of the short periods and the others, and what the parts ask together.
use mathlib.Core.Path.{◌≡◌, ◌∙◌, refl}
use mathlib.Core.Logic.{⊎_elim, ⊎_map}
use mathlib.Core.List.{List}
use Prim.Native.Nat.{ℕ, ◌+◌, ◌-◌, ◌<◌, ◌≤◌}
use native.Mathlib.Nat.{dvd_refl, le_trans, min-eq_left}
use native.Mathlib.Omega.{arith}
use lib.ListN.{length, get_or, set, take, length-take}
use lib.Seq.{get_or-set_same, get_or-set_other, get_or-take}
use borrow.Author.Count.{below_more}
use Rattle.units.specs.Bounds.{max_graphs}
use Rattle.sdf.specs.Sum.{sum_to}
use Rattle.sdf.proofs.Sum.{sum_mono_add}
use Rattle.edf.specs.Demand.{Work, Works, cost, blocks, demand, iteration, load}
use Rattle.edf.specs.Bounds.{Bounded}
use Rattle.demand.specs.Lent.{no_head, work_at, works_of, Lent}
use Rattle.demand.specs.declared.rows.Actor.{Actor}
use Rattle.demand.specs.declared.rows.Head.{Head}
use Rattle.demand.specs.declared.rows.Rows.{Rows}
use Rattle.piece.specs.Pieces.{Pieces}
use Rattle.piece.specs.declared.Known.{Known}
use Rattle.late.specs.Cycle.{max_cycle, Parting, Parted, Floors, long_heads, long_works, Eased}
use Rattle.late.specs.Search.{Carries}
use Rattle.late.specs.declared.cycle.Table.{Table}
use Rattle.late.proofs.Cycles.{floors_leave}

-- A part has no more actors of a graph than there are.
pub parting_few : (head : Head) {cycle count : ℕ} → Parting head cycle count → count ≤ head.actors
parting_few head p = ⊎_elim (λ a. omega (arith, a.0)) (λ z. omega arith) p

-- A graph with so many of its actors.
abbrev pub with_actors : Head → ℕ → Head
with_actors head count = record { period = head.period; deadline = head.deadline; actors = count }

-- One graph more.
pub parted_turn : {cycle i count : ℕ} (heads short long : List Head) → Parted cycle i heads short long → i < length short → i < length long
    → Parting (get_or heads i no_head) cycle count
    → let head = get_or heads i no_head in
    Parted cycle (i + 1) heads (set short i (with_actors head count)) (set long i (with_actors head (head.actors - count)))
parted_turn {i = i} {count = count} heads short long p a b g =
    let head = get_or heads i no_head in
    let s = with_actors head count in
    let l = with_actors head (head.actors - count) in
    below_more _ i
    (λ j h. rw (get_or-set_other short i j s no_head (λ e. omega arith), get_or-set_other long i j l no_head (λ e. omega arith)) (p j h))
    (rw (get_or-set_same short i s no_head a, get_or-set_same long i l no_head b) (record {
      short_period = refl;
      short_deadline = refl;
      long_period = refl;
      long_deadline = refl;
      parting = g;
      both = omega (arith, parting_few head g);
    }))

-- The parts of all graphs.
pub record Split (cycle : ℕ) (heads short long : List Head) : Type 0 where
  pub short_graphs : length short ≡ length heads
  pub long_graphs : length long ≡ length heads
  pub parted : Parted cycle (length heads) heads short long

-- They are the first ones of the places for as many.
pub split_of : {cycle : ℕ} (heads short long : List Head) → length heads ≤ length short → length heads ≤ length long
    → Parted cycle (length heads) heads short long → Split cycle heads (take (length heads) short) (take (length heads) long)
split_of heads short long a b p = record {
  short_graphs = length-take (length heads) short ∙ min-eq_left a;
  long_graphs = length-take (length heads) long ∙ min-eq_left b;
  parted = λ i l. rw (get_or-take (length heads) short i no_head l, get_or-take (length heads) long i no_head l) (p i l);
}

-- A part has the graphs with no more actors.
record Part (heads part : List Head) : Type 0 where
  graphs : length part ≡ length heads
  period : (i : ℕ) → i < length heads → (get_or part i no_head).period.n ≡ (get_or heads i no_head).period.n
  deadline : (i : ℕ) → i < length heads → (get_or part i no_head).deadline.n ≡ (get_or heads i no_head).deadline.n
  few : (i : ℕ) → i < length heads → (get_or part i no_head).actors ≤ (get_or heads i no_head).actors

module _ {cycle : ℕ} {heads short long : List Head} (p : Split cycle heads short long) where
  short_part : Part heads short
  short_part = record {
    graphs = p.short_graphs;
    period = λ i l. (p.parted i l).short_period;
    deadline = λ i l. (p.parted i l).short_deadline;
    few = λ i l. omega (arith, (p.parted i l).both);
  }

  long_part : Part heads long
  long_part = record {
    graphs = p.long_graphs;
    period = λ i l. (p.parted i l).long_period;
    deadline = λ i l. (p.parted i l).long_deadline;
    few = λ i l. omega (arith, (p.parted i l).both);
  }

module _ {heads part : List Head} (p : Part heads part) (actors : List Actor) (room : ℕ) where
  part_bounded : (i : ℕ) → i < length heads → Bounded (work_at heads actors room i) → Bounded (work_at part actors room i)
  part_bounded i l b = record {
    period_low = rw (p.period i l) b.period_low;
    period_high = rw (p.period i l) b.period_high;
    deadline_low = rw (p.deadline i l) b.deadline_low;
    deadline_high = rw (p.deadline i l) b.deadline_high;
    actors = le_trans (p.few i l) b.actors;
    time = λ v m. b.time v (le_trans m (p.few i l));
    repetition_low = λ v m. b.repetition_low v (le_trans m (p.few i l));
    repetition_high = λ v m. b.repetition_high v (le_trans m (p.few i l));
    skip = λ v m. b.skip v (le_trans m (p.few i l));
  }

  part_lent : Lent heads actors room → Lent part actors room
  part_lent b = record {
    bounded = record {
      graphs = omega (arith, p.graphs, b.bounded.graphs);
      work = λ i l. part_bounded i (rw p.graphs at l) (b.bounded.work i (rw p.graphs at l));
    };
    fits = λ i l. le_trans (p.few i (rw p.graphs at l)) (b.fits i (rw p.graphs at l));
    there = rw p.graphs b.there;
    room_high = b.room_high;
  }

  -- A graph with all its actors asks the same in the part.
  part_cost : (t i : ℕ) → i < length heads → (get_or part i no_head).actors ≡ (get_or heads i no_head).actors
      → cost (work_at part actors room i) (blocks (work_at part actors room i) t)
      ≡ cost (work_at heads actors room i) (blocks (work_at heads actors room i) t)
  unfolding cost blocks
  part_cost t i l e = rw (p.period i l, p.deadline i l, e) refl

-- Without actors an iteration takes no time.
iteration_none : (w : Work) → w.actors ≡ 0 → iteration w ≡ 0
unfolding iteration sum_to
iteration_none w z = rw z refl

module _ {cycle : ℕ} {heads short long : List Head} (actors : List Actor) (room : ℕ) where
  -- Both parts are within the bounds.
  pub split_lent : Lent heads actors room → Split cycle heads short long → Lent short actors room × Lent long actors room
  split_lent b p = (part_lent (short_part p) actors room b, part_lent (long_part p) actors room b)

  -- The parts ask for no less than the whole.
  pub split_demand : Split cycle heads short long → (t : ℕ)
      → demand (works_of heads actors room) t ≤ demand (works_of short actors room) t + demand (works_of long actors room) t
  unfolding demand
  split_demand p t = rw (p.short_graphs, p.long_graphs) (sum_mono_add _ _ _ (length heads) (λ i l. ⊎_elim
      (λ a. omega (arith, part_cost (short_part p) actors room t i l a.0))
      (λ z. omega (arith, part_cost (long_part p) actors room t i l (omega (arith, (p.parted i l).both))))
      ((p.parted i l).parting)))

  -- The cycle carries the short periods.
  pub split_carries : 0 < cycle → Split cycle heads short long → Carries (works_of short actors room) cycle cycle
  split_carries c p = record {
    positive = c;
    divides = dvd_refl cycle;
    each = λ i l.
        let g = p.parted i (rw p.short_graphs at l) in
        ⊎_map (λ a. rw g.short_period a.1) (iteration_none (work_at short actors room i)) g.parting;
  }

-- The parts of a sheet's graphs stand first in the places for as many as a sheet may have.
pub halves : (rows : Rows) {cycle n : ℕ} (short long : List Head) → n ≡ length rows.heads.now → length short ≡ max_graphs
    → length long ≡ max_graphs → Parted cycle (length rows.heads.now) rows.heads.now short long
    → Split cycle rows.heads.now (take n short) (take (length rows.heads.now) long)
halves rows short long e a b p =
    let few = rows.lent.bounded.graphs in
    rw e (split_of rows.heads.now short long (omega arith) (omega arith) p)

-- A table over the cycle of the short periods serves.
pub eased : (rows : Rows) {short : List Head} (k : Table) → Split k.cycle.n rows.heads.now short (long_heads rows k) → 0 < k.cycle.n
    → k.cycle.n ≤ max_cycle → k.cycle.n ≤ length k.floors.now → Floors (works_of short rows.actors.now rows.room) k.cycle.n k.floors.now
    → load (works_of short rows.actors.now rows.room) k.cycle.n + k.rest.n ≡ k.cycle.n
    → ((ws : Works) → ws.graphs ≡ length rows.heads.now → Pieces ws k.spans) → Eased rows k
eased rows {short} k p some high there table whole known =
    let carries = split_carries rows.actors.now rows.room some p in
    record {
      lent = (split_lent rows.actors.now rows.room rows.lent p).1;
      known = known (long_works rows k) p.long_graphs;
      cycle_low = some;
      cycle_high = high;
      there = there;
      rest_high = omega arith;
      leaves = λ a t h. omega (
        arith,
        split_demand rows.actors.now rows.room p t,
        floors_leave (works_of short rows.actors.now rows.room) k.rest.n k.floors.now carries table whole a t h,
      );
    }

-- It serves on with more known of the graphs of the long periods.
pub eased_on : {rows : Rows} {k : Table} {spans : List Known} → Eased rows k → Pieces (long_works rows k) spans
    → Eased rows (record { cycle = k.cycle; rest = k.rest; floors = k.floors; long = k.long; spans = spans })
eased_on e known = record {
  lent = e.lent;
  known = known;
  cycle_low = e.cycle_low;
  cycle_high = e.cycle_high;
  there = e.there;
  rest_high = e.rest_high;
  leaves = e.leaves;
}
