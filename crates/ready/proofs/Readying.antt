-- 01, Order, second walk: graph after graph is judged and its numbers put into their places; then the frame.
use mathlib.Core.Path.{◌≡◌, refl, sym, subst, ◌∙◌}
use mathlib.Core.Logic.{⊎_elim}
use mathlib.Core.List.{List, [], ◌∷◌, ◌++◌}
use Prim.Native.Nat.{ℕ, suc, ◌+◌, ◌-◌, ◌<◌, ◌≤◌}
use native.Mathlib.Nat.{not-suc-le-zero, sub-zero}
use native.Mathlib.Numerals.{add-one}
use native.Mathlib.Omega.{arith}
use lib.ListN.{length, get_or, take, drop, length-append, get_or-append}
use lib.Seq.{get_or_at, get_or-take, length-take-le}
use Rattle.std.specs.Prelude.{Ok, Err}
use Rattle.units.specs.Bounds.{max_ticks}
use Rattle.units.specs.declared.Ticks.{Ticks}
use Rattle.sdf.proofs.Numbers.{lt_or_ge}
use Rattle.edf.specs.Bounds.{Bounded}
use Rattle.edf.specs.Frame as frame
use Rattle.demand.specs.Lent.{no_head}
use Rattle.demand.specs.declared.rows.Head.{Head}
use Rattle.demand.specs.declared.rows.Actor.{Actor}
use Rattle.sheet.specs.declared.Refusal.{Refusal}
use Rattle.sheet.specs.declared.Refusal.TheVariants.{Frame}
use Rattle.sheet.specs.Layout.{in_numbers}
use Rattle.sheet.specs.Check.{stretch, first_walk, check_list}
use Rattle.sheet.proofs.Walk.{Passed, sized_gives, part_is_drop, walk_on}
use Rattle.sheet.proofs.Ranges.{next_of}
use Rattle.ready.specs.Graphs.{Judged, judged, nothing, work_of}
use Rattle.ready.specs.Lines.{Outcome, refused, ready, fail, meet, graph_lines, frame_line, second_walk, list_lines}
use Rattle.ready.specs.Rows.{Row, Rows, Prepares}
use Rattle.ready.specs.Ready.{Met, Refuses, Walked}
use Rattle.ready.proofs.Sound.{times_length, bounded_judged}
use Rattle.ready.proofs.Same.{frame_same}
use Rattle.ready.proofs.Places.{Filled, row_kept}
use Rattle.ready.proofs.Says.{refuses_any, met_lines}

-- What holds of each graph of js, and of one more, holds of each of them together.
all_and :
    (P : ℕ → Judged → Type 0) (js : List Judged) (j : Judged) → ((i : ℕ) → i < length js → P i (get_or js i nothing)) → P (length js) j →
    (i : ℕ) → i < length (js ++ (j ∷ [])) → P i (get_or (js ++ (j ∷ [])) i nothing)
all_and P js j all one i h =
    ⊎_elim
    (λ l. subst (P i) (sym (get_or-append js (j ∷ []) nothing i l)) (all i l))
    (λ l.
    let e : i ≡ length js = omega (arith, length-append js (j ∷ [])) in
    rw (e, get_or_at js j [] nothing (length js) refl) one)
    (lt_or_ge i (length js))

-- The second walk over the n graphs of l has come to graph k, at the start of rest: those before it stand in their places.
pub record Readying (n : ℕ) (l : List ℕ) (k : ℕ) (rest : List ℕ) (heads : List Head) (actors : List Actor) : Type 0 where
  pub walk : first_walk in_numbers (n - k) k rest ≡ Ok tt
  pub js : List Judged
  pub count : length js ≡ k
  pub filled : Rows js heads actors
  pub lines : (o : Outcome) → second_walk (n - k) k rest js o → second_walk n 0 l [] o

-- The first graph is still to come.
pub readying_start :
    (n : ℕ) (l : List ℕ) (heads : List Head) (actors : List Actor) → first_walk in_numbers n 0 l ≡ Ok tt → Readying n l 0 l heads actors
readying_start n l heads actors e = record {
  walk = rw sub-zero e;
  js = [];
  count = refl;
  filled = record {
    graphs = omega arith;
    row = λ i h. absurd (not-suc-le-zero h);
    bounded = λ i h. absurd (not-suc-le-zero h);
    few = λ i h. absurd (not-suc-le-zero h);
  };
  lines = λ o h. rw sub-zero at h;
}

module _
    {n : ℕ} {l : List ℕ} {k : ℕ} {rest : List ℕ} {heads : List Head} {actors : List Actor} (w : Readying n l k rest heads actors)
    (here : k < n) where
  turned : n - k ≡ suc (n - suc k)
  turned = omega arith

  -- The graph to come has passed the first walk, and so have those behind it.
  pub walked : Passed in_numbers rest × (first_walk in_numbers (n - suc k) (suc k) (drop (stretch in_numbers rest) rest) ≡ Ok tt)
  walked = walk_on in_numbers (n - suc k) k rest (rw turned at w.walk)

  turn_lines :
      (o : Outcome) →
      graph_lines k rest (λ j. second_walk (n - suc k) (suc k) (drop (stretch in_numbers rest) rest) (w.js ++ (j ∷ []))) o →
      second_walk n 0 l [] o
  unfolding second_walk
  turn_lines o h = w.lines o (rw turned h)

  -- A graph that is refused ends the walk with that refusal.
  pub readying_no : (r : Refusal) → Refuses k rest r → second_walk n 0 l [] (refused r)
  readying_no r h = turn_lines (refused r) (refuses_any (refused r) k rest _ h)

  -- A graph that stands ready leaves it to those behind it.
  pub readying_turn :
      {heads' : List Head} {actors' : List Actor} {q s : List ℕ} → n ≤ 8 → 256 ≤ length actors → length actors' ≡ length actors →
      Met rest q s → Filled (judged rest q s) k heads heads' actors actors' →
      Readying n l (k + 1) (drop (stretch in_numbers rest) rest) heads' actors'
  readying_turn {heads'} {actors'} {q} {s} few room d met placed =
      let p : Passed in_numbers rest = walked.0 in
      let j : Judged = judged rest q s in
      rw add-one (record {
        walk = walked.1;
        js = w.js ++ (j ∷ []);
        count = simp (length-append, w.count) (omega arith);
        filled = record {
          graphs = simp length-append (omega (arith, w.count));
          row =
              all_and (λ i j. Row j heads' actors' i) w.js j
              (λ i h. row_kept (get_or w.js i nothing) i (omega (arith, w.count)) (w.filled.few i h) (omega arith) d placed (w.filled.row i h))
              (rw w.count placed.row);
          bounded =
              all_and (λ i j. Bounded (work_of j)) w.js j w.filled.bounded
              (bounded_judged rest p.counts p.whole met.range q s met.reached met.balances met.repetition met.skips);
          few =
              all_and (λ i j. length j.times ≤ 32) w.js j w.filled.few
              (omega (arith, times_length rest p.counts p.whole, (sized_gives rest p.counts).actors));
        };
        lines = λ o h. turn_lines o (met_lines o k rest _ met h);
      })

-- After the last graph all of them stand ready, and answer 12 decides.
pub readying_end :
    {n : ℕ} {l : List ℕ} {k : ℕ} {rest : List ℕ} {heads : List Head} {actors : List Actor} → Readying n l k rest heads actors → n ≡ k →
    Walked n l (Ok tt) heads actors
unfolding second_walk
readying_end {n} {l} {k} w h =
    let e : n - k ≡ 0 = omega arith in
    (w.js, w.count ∙ sym h, w.filled, λ o f. w.lines o (rw e f))

-- Answers 3 to 5.
pub prepares_no : (l : List ℕ) {r : Refusal} → check_list l ≡ Err r → list_lines l (refused r)
unfolding list_lines
prepares_no l e = rw e refl

-- Past them answers 6 to 12 decide.
pub prepares_walk :
    (l : List ℕ) (o : Outcome) → check_list l ≡ Ok tt → second_walk (get_or l 0 0) 0 (next_of l 1) [] o → list_lines l o
unfolding list_lines
prepares_walk l o e w = rw e (rw part_is_drop at w)

-- F is the frame of the periods in the heads of n graphs.
abbrev HeadsFrame : ℕ → List Head → ℕ → Type 0
HeadsFrame n heads F = frame.Frame (length (take n heads)) (λ i. (get_or (take n heads) i no_head).period.n) F

-- Answer 12 over the heads of n judged graphs.
module _
    {js : List Judged} {heads : List Head} {actors : List Actor} (n : ℕ) (count : length js ≡ n) (laid : Rows js heads actors)
    (room : 8 ≤ length heads) where
  there : length (take n heads) ≡ n
  there = length-take-le n heads (omega (arith, laid.graphs))

  period_at : (i : ℕ) → i < n → (get_or (take n heads) i no_head).period.n ≡ (get_or js i nothing).period
  period_at i h =
      let e : get_or (take n heads) i no_head ≡ get_or heads i no_head = get_or-take n heads i no_head h in
      rw e (laid.row i (omega arith)).period

  judged_frame : {F : ℕ} → HeadsFrame n heads F → frame.Frame (length js) (λ i. (get_or js i nothing).period) F
  judged_frame f = rw count (frame_same (λ i h. sym (period_at i h)) (rw there at f))

  heads_frame : {F : ℕ} → frame.Frame (length js) (λ i. (get_or js i nothing).period) F → HeadsFrame n heads F
  heads_frame f = rw there (frame_same period_at (rw count at f))

  -- A frame within its bound leaves the graphs ready.
  framed : (f : ℕ) → HeadsFrame n heads f → f ≤ max_ticks → frame_line js (ready js f)
  unfolding frame_line
  framed f a b = meet (f, judged_frame a, b) refl

  -- Without one answer 12 refuses.
  unframed : ((F : ℕ) → HeadsFrame n heads F → max_ticks < F) → frame_line js (refused Frame)
  unfolding frame_line
  unframed none = fail (λ (F, a, b). omega (arith, none F (heads_frame a))) refl

-- After the walk answer 12 leaves the graphs and their frame ready, or refuses.
module _
    (l : List ℕ) {heads : List Head} {actors : List Actor} (checked : check_list l ≡ Ok tt) (room : 8 ≤ length heads)
    (walked : Walked (get_or l 0 0) (next_of l 1) (Ok tt) heads actors) where
  pub prepares_ready :
      (f : Ticks) → HeadsFrame (get_or l 0 0) heads f.n × (f.n ≤ max_ticks) →
      Prepares l (Ok (record { graphs = get_or l 0 0; frame = f })) heads actors
  prepares_ready f (a, b) =
      let (js, count, filled, lines) = walked in
      (refl, js, prepares_walk l _ checked (lines _ (framed (get_or l 0 0) count filled room f.n a b)), count, filled)

  pub prepares_frame : ((F : ℕ) → HeadsFrame (get_or l 0 0) heads F → max_ticks < F) → list_lines l (refused Frame)
  prepares_frame none =
      let (js, count, filled, lines) = walked in
      prepares_walk l _ checked (lines _ (unframed (get_or l 0 0) count filled room none))
