-- What the library holds of the judged graphs while it answers: each graph's period, deadline and actor count, and a row of 32
-- places for its actors' worst-case times, repetition numbers and skips.
use Rattle.std.specs.Prelude.{◌≡◌, List, ℕ, ◌*◌, ◌<◌, ◌≤◌, Result, Ok, Err, length, get_or, map, take, drop}
use Rattle.edf.specs.Bounds.{Bounded}
use Rattle.demand.specs.Lent.{no_head}
use Rattle.demand.specs.declared.rows.Head.{Head}
use Rattle.demand.specs.declared.rows.Actor.{Actor}
use Rattle.sheet.specs.declared.Refusal.{Refusal}
use Rattle.ready.specs.declared.Ready.{Ready}
use Rattle.ready.specs.Graphs.{Judged, nothing, work_of}
use Rattle.ready.specs.Lines.{refused, ready, list_lines}

-- The first n actors in the row of graph i.
abbrev pub row_at : List Actor → (i n : ℕ) → List Actor
row_at actors i n = take n (drop (32 * i) actors)

-- Graph i stands in its places.
pub record Row (j : Judged) (heads : List Head) (actors : List Actor) (i : ℕ) : Type 0 where
  pub period : (get_or heads i no_head).period.n ≡ j.period
  pub deadline : (get_or heads i no_head).deadline.n ≡ j.deadline
  pub count : (get_or heads i no_head).actors ≡ length j.times
  pub times : map (λ (a : Actor). a.time.n) (row_at actors i (length j.times)) ≡ j.times
  pub repetition : map (λ (a : Actor). a.repetition.n) (row_at actors i (length j.times)) ≡ j.repetition
  pub skips : map (λ (a : Actor). a.skip.n) (row_at actors i (length j.times)) ≡ j.skips

-- Every graph stands in its places, within document 01's bounds.
pub record Rows (js : List Judged) (heads : List Head) (actors : List Actor) : Type 0 where
  pub graphs : length js ≤ 8
  pub row : (i : ℕ) → i < length js → Row (get_or js i nothing) heads actors i
  pub bounded : (i : ℕ) → i < length js → Bounded (work_of (get_or js i nothing))
  pub few : (i : ℕ) → i < length js → length (get_or js i nothing).times ≤ 32

-- A refusal that the lines allow, or the graphs that they find ready, in their places, and the frame.
abbrev pub Prepares : List ℕ → Result Ready Refusal → List Head → List Actor → Type 0
Prepares l (Err r) heads actors = list_lines l (refused r)
Prepares l (Ok p) heads actors =
    (p.graphs ≡ get_or l 0 0) × (js : List Judged) × list_lines l (ready js p.frame.n) × (length js ≡ p.graphs) × Rows js heads actors
