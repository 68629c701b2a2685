-- What the library holds of the judged graphs is what demand takes in rows.
use mathlib.Core.Path.{◌≡◌, sym, ap, subst, ◌∙◌}
use mathlib.Core.List.{List}
use Prim.Native.Nat.{ℕ, ◌+◌, ◌*◌, ◌<◌, ◌≤◌}
use native.Mathlib.Omega.{arith}
use lib.ListN.{length, get_or, take, drop}
use Rattle.std.specs.Prelude.{map}
use Rattle.std.proofs.Math.ListN.{get_or-map}
use Rattle.std.proofs.lemmas.List.{get_or-take, get_or-drop}
use Rattle.edf.specs.Frame.{Frame}
use Rattle.demand.specs.declared.rows.Head.{Head}
use Rattle.demand.specs.declared.rows.Actor.{Actor}
use Rattle.demand.specs.declared.rows.Rows.{Rows}
use Rattle.demand.specs.Lent.{no_head, no_actor, work_at, Lent}
use Rattle.demand.specs.Rows.{works_in, work_in, actors_in}
use Rattle.ready.specs.Graphs.{Judged, nothing, work_of, works_of}
use Rattle.ready.specs.Rows as stand
use Rattle.ready.proofs.Same.{SameWork, Same, bounded_same, frame_same}
use Rattle.shambrukit.specs.Held.{Stand, Framed}

-- A number of a column, read from the rows.
pub column_at : (rows xs : List ℕ) (m place v at : ℕ) → take m (drop place rows) ≡ xs → v < m → at ≡ place + v → get_or rows at 0 ≡ get_or xs v 0
column_at rows xs m place v at e h p = rw (p, ← e, get_or-take m (drop place rows) v 0 h, get_or-drop place rows v 0)

-- A number of an actor, read from the row.
field_at :
    (field : Actor → ℕ) (actors : List Actor) (i m v : ℕ) {xs : List ℕ} → map field (stand.row_at actors i m) ≡ xs → v < m →
    field (get_or actors (32 * i + v) no_actor) ≡ get_or xs v (field no_actor)
field_at field actors i m v e h =
    let xs : List Actor = stand.row_at actors i m in
    let x : get_or xs v no_actor ≡ get_or actors (32 * i + v) no_actor = get_or-take m (drop (32 * i) actors) v no_actor h ∙ get_or-drop (32 * i) actors v no_actor in
    ap field (sym x) ∙ sym (get_or-map field xs v no_actor) ∙ ap (λ (ys : List ℕ). get_or ys v (field no_actor)) e

module _ {js : List Judged} {heads : List Head} {actors : List Actor} (st : stand.Rows js heads actors) where
  -- Graph i is lent as it was judged.
  work_stands : (i : ℕ) → i < length js → SameWork (work_at heads actors 32 i) (work_of (get_or js i nothing))
  work_stands i h =
      let r = st.row i h in
      let m = length (get_or js i nothing).times in
      record {
        period = r.period;
        deadline = r.deadline;
        actors = r.count;
        time = λ v l. field_at (λ (a : Actor). a.time.n) actors i m v r.times l;
        repetition = λ v l. field_at (λ (a : Actor). a.repetition.n) actors i m v r.repetition l;
        skip = λ v l. field_at (λ (a : Actor). a.skip.n) actors i m v r.skips l;
      }

  -- The judged graphs, and no others, are lent as demand asks.
  pub stand_lent : length heads ≡ length js → 256 ≤ length actors → Lent heads actors 32
  stand_lent e room =
      record {
        bounded = record {
          graphs = omega (arith, st.graphs);
          work = λ i h. let l : i < length js = omega arith in bounded_same (work_stands i l) (st.bounded i l);
        };
        fits = λ i h.
            let l : i < length js = omega arith in
            omega (arith, (st.row i l).count, st.few i l);
        there = omega (arith, st.graphs);
        room_high = omega arith;
      }

  -- They stand in the first heads.
  pub first_heads : (n : ℕ) → length js ≡ n → stand.Rows js (take n heads) actors
  first_heads n e =
      record {
        graphs = st.graphs;
        row = λ i h.
            let r = st.row i h in
            let same : get_or (take n heads) i no_head ≡ get_or heads i no_head = get_or-take n heads i no_head (omega arith) in
            record {
              period = rw same r.period;
              deadline = rw same r.deadline;
              count = rw same r.count;
              times = r.times;
              repetition = r.repetition;
              skips = r.skips;
            };
        bounded = st.bounded;
        few = st.few;
      }

module _ {js : List Judged} {rows : Rows} (st : Stand js rows) where
  -- Graph i is lent as it was judged.
  pub work_same : (i : ℕ) → i < length js → SameWork (work_in rows i) (work_of (get_or js i nothing))
  work_same i h = subst (λ (room : ℕ). SameWork (work_at rows.heads.now rows.actors.now room i) (work_of (get_or js i nothing))) (sym st.room) (work_stands st.graphs i h)

  -- All graphs are lent as they were judged.
  pub works_same : Same (works_in rows) (works_of js)
  works_same = record { graphs = sym st.count; work = work_same }

  -- Their frame is the frame of the periods that are lent.
  pub frame_held : {F : ℕ} → Framed js F → Frame (length rows.heads.now) (λ i. (work_in rows i).period) F
  frame_held f = rw (← st.count) (frame_same (λ i h. (work_same i h).period) f.0)

  -- The actors of graph i are those of its row.
  pub actors_same : (i : ℕ) → i < length js → actors_in rows i ≡ stand.row_at rows.actors.now i (length (get_or js i nothing).times)
  actors_same i h = rw (st.room, (st.graphs.row i h).count)
