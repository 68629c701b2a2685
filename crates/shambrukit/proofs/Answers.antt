-- 01, the calls' own lines: 15 for the graph, 15 for the actor, 13, 14, and the answer, for judged graphs that stand in their rows.
use mathlib.Core.Path.{◌≡◌, refl, ap, ◌∙◌, subst}
use mathlib.Core.List.{List, ◌++◌}
use Prim.Native.Nat.{ℕ, ◌*◌, ◌-◌, ◌<◌, ◌≤◌, ◌^◌}
use native.Mathlib.Omega.{arith}
use lib.ListN.{length, get_or, drop}
use borrow.Author.Tests.{lt-ltb, le-leb, lt-leb}
use Rattle.std.specs.Prelude.{Ok, Err, map}
use Rattle.units.specs.Bounds.{max_ticks, max_outputs}
use Rattle.units.specs.declared.Ticks.{Ticks}
use Rattle.sdf.specs.Skip.{fewest}
use Rattle.edf.specs.Demand.{demand, load, LateLength, Within}
use Rattle.edf.specs.Tasks.{tasks, task_numbers}
use Rattle.edf.proofs.Fits.{fits_fewest}
use Rattle.demand.specs.declared.rows.Head.{Head}
use Rattle.demand.specs.declared.rows.Actor.{Actor}
use Rattle.demand.specs.declared.rows.Rows.{Rows}
use Rattle.demand.specs.Lent.{no_actor}
use Rattle.demand.specs.Rows.{works_in, work_in, actors_in}
use Rattle.demand.proofs.Row.{row_length, row_actor}
use Rattle.sheet.specs.Answer.{Reply}
use Rattle.sheet.specs.declared.Refusal.TheVariants.{Room}
use Rattle.ready.specs.declared.Ready.{Ready}
use Rattle.ready.specs.Graphs.{Judged, nothing, works_of}
use Rattle.ready.specs.Lines.{Outcome, ready}
use Rattle.ready.specs.Rows as stand
use Rattle.ready.proofs.Same.{demand_same, load_same, late_same, within_same, tasks_same}
use Rattle.shambrukit.specs.declared.Verdict.TheVariants.{Accepted, Overload, Late}
use Rattle.shambrukit.specs.declared.Load.{Load}
use Rattle.shambrukit.specs.Verdict.{Judgement, overload, late, accepted}
use Rattle.shambrukit.specs.Calls.{Told, Fills, listed, numbers_of, demand_told, fewest_told, task_list}
use Rattle.shambrukit.specs.Held.{PreparedBy, Stand, HeldTold, HeldListed, Column}
use Rattle.shambrukit.proofs.Held.{works_same, work_same, actors_same}

-- What the lines find ready of the form that was handed on, they find of the one that came.
pub prepared_same :
    {F : Type 0} (lines : F → Outcome → Type 0) (p : Ready) {form f : F} {heads : List Head} {actors : List Actor} →
    f ≡ form → PreparedBy (lines f) (Ok p) heads actors → PreparedBy (lines form) (Ok p) heads actors
prepared_same lines p {heads = heads} {actors = actors} e prepared = subst (λ f. PreparedBy (lines f) (Ok p) heads actors) e prepared

-- The graphs that the lines find ready, where they stand in rows.
module _ (lines : Outcome → Type 0) (p : Ready) {heads : List Head} {actors : List Actor} {rows : Rows} (prepared : PreparedBy lines (Ok p) heads actors)
    (stand_there : (js : List Judged) → length js ≡ p.graphs → stand.Rows js heads actors → Stand js rows) where
  -- What is right for them is the call's answer.
  pub told_ready : {A : Type 0} (call : Outcome → A) {a : A} → HeldTold rows call a → Told lines call a
  told_ready call held =
      let (js, found, count, stands, framed) = prepared in
      (ready js p.frame.n, found, held js p.frame.n (stand_there js count stands))

  -- So are the numbers of one of them that fill lent memory.
  pub fills_ready :
      (numbers : Judged → List ℕ) (graph : ℕ) (before : List ℕ) {w : Reply} {after : List ℕ} → HeldListed rows numbers graph w before after →
      Fills lines (λ o. listed numbers o graph (length before)) (λ o. numbers_of numbers o graph) w before after
  fills_ready numbers graph before held =
      let (js, found, count, stands, framed) = prepared in
      let (answer, memory) = held js p.frame.n (stand_there js count stands) in
      (ready js p.frame.n, found, answer, memory)

-- The demand of the graphs that are lent.
pub demand_value :
    {rows : Rows} (t : ℕ) {r : ℕ} → t ≤ max_ticks → r ≡ demand (works_in rows) t → HeldTold rows (λ o. demand_told o t) (Ok r)
demand_value t h e js F st = rw (le-leb t max_ticks h, e, demand_same (works_same st) t)

module _ {rows : Rows} (graph : ℕ) (h : graph < length rows.heads.now) {js : List Judged} (st : Stand js rows) where
  -- The graph that is asked for was judged.
  pub graph_there : graph < length js
  graph_there = omega (arith, st.count)

  -- It has as many actors.
  pub actors_count : length (actors_in rows graph) ≡ length (get_or js graph nothing).times
  actors_count = row_length rows.lent h refl ∙ (st.graphs.row graph graph_there).count

-- An actor of a graph, and a K within its bound.
module _ (rows : Rows) (graph actor K : ℕ) {k : ℕ} {of : Actor} (g : graph < length rows.heads.now) (v : actor < length (actors_in rows graph))
    (h : K ≤ max_outputs) (k-is : k ≡ K) (of-is : of ≡ get_or (actors_in rows graph) actor no_actor) where
  repetition_is : of.repetition.n ≡ (work_in rows graph).repetition actor
  repetition_is = ap (λ (a : Actor). a.repetition.n) (of-is ∙ row_actor rows.lent g refl v no_actor)

  skip_is : of.skip.n ≡ (work_in rows graph).skip actor
  skip_is = ap (λ (a : Actor). a.skip.n) (of-is ∙ row_actor rows.lent g refl v no_actor)

  -- K × its repetition number fits.
  pub fewest_fits : k * of.repetition.n < 2 ^ 64
  fewest_fits = rw (k-is, repetition_is) (fits_fewest (rows.lent.bounded.work graph g) h (omega (arith, row_length rows.lent g refl)))

  -- The fewest firings.
  pub fewest_value : {r : ℕ} → r ≡ k * of.repetition.n - of.skip.n → HeldTold rows (λ o. fewest_told o graph actor K) (Ok r)
  unfolding fewest
  fewest_value e js F st =
      let same = work_same st graph (graph_there graph g st) in
      let there : actor < length (get_or js graph nothing).times = omega (arith, actors_count graph g st) in
      rw (
        lt-ltb graph (length js) (graph_there graph g st),
        lt-ltb actor (length (get_or js graph nothing).times) there,
        le-leb K max_outputs h,
        e,
        k-is,
        repetition_is,
        skip_is,
        same.repetition actor there,
        same.skip actor there,
      )

module _ {js : List Judged} {rows : Rows} (st : Stand js rows) (F L : Ticks) (is : L.n ≡ load (works_in rows) F.n) where
  load_is : L.n ≡ load (works_of js) F.n
  load_is = is ∙ load_same (works_same st) F.n

  abbrev loaded : ℕ → Load
  loaded x = record { load = record { n = x }; frame = F }

  -- 20: the load is above the frame.
  pub overload_held : F.n < L.n → Judgement (works_of js) F.n (Overload (record { load = L; frame = F }))
  overload_held h = overload (rw (← load_is) h) (ap (λ (x : ℕ). Overload (loaded x)) load_is)

  module _ (h : L.n ≤ F.n) where
    -- 21: t is the smallest late length.
    pub late_held : {t : Ticks} → LateLength (works_in rows) t.n → Judgement (works_of js) F.n (Late (record { load = L; frame = F }) t)
    late_held {t} l = late (rw (← load_is) h) t.n (late_same (works_same st) l) (ap (λ (x : ℕ). Late (loaded x) t) load_is)

    -- 0: demand is within every length.
    pub accepted_held : Within (works_in rows) → Judgement (works_of js) F.n (Accepted (record { load = L; frame = F }))
    accepted_held w = accepted (rw (← load_is) h) (within_same (works_same st) w) (ap (λ (x : ℕ). Accepted (loaded x)) load_is)

-- A list of numbers of a graph that is there: `count` of them, which are xs.
module _ {rows : Rows} (graph : ℕ) (before : List ℕ) (numbers : Judged → List ℕ) {count : ℕ} {xs : List ℕ} (h : graph < length rows.heads.now)
    (each : count ≡ length xs) (is : (js : List Judged) → Stand js rows → xs ≡ numbers (get_or js graph nothing)) where
  -- 14: no room for so many numbers.
  pub listed_room : length before < count → HeldListed rows numbers graph (Err Room) before before
  listed_room l js F st = (
    rw (lt-ltb graph (length js) (graph_there graph h st), ← is js st, lt-leb (length xs) (length before) (omega (arith, each))),
    refl,
  )

  -- So many numbers are written.
  pub listed_wrote : {after : List ℕ} → count ≤ length before → after ≡ xs ++ drop count before → HeldListed rows numbers graph (Ok count) before after
  listed_wrote l m js F st = (
    rw (lt-ltb graph (length js) (graph_there graph h st), ← is js st, le-leb (length xs) (length before) (omega (arith, each)), each),
    rw (m, is js st),
  )

-- The task list of a graph that is lent.
pub tasks_held :
    {rows : Rows} (graph : ℕ) → graph < length rows.heads.now → (js : List Judged) → Stand js rows →
    task_numbers (tasks (work_in rows graph)) ≡ task_list (get_or js graph nothing)
tasks_held graph h js st = ap task_numbers (tasks_same (work_same st graph (graph_there graph h st)))

-- The numbers that stand in a field of its actors.
pub column_held :
    {rows : Rows} (graph : ℕ) (field : Actor → ℕ) (numbers : Judged → List ℕ) → Column field numbers → graph < length rows.heads.now →
    (js : List Judged) → Stand js rows → map field (actors_in rows graph) ≡ numbers (get_or js graph nothing)
column_held {rows} graph field numbers column h js st =
    let g = graph_there graph h st in
    ap (map field) (actors_same st graph g) ∙ column _ rows.heads.now rows.actors.now graph (st.graphs.row graph g)
