-- 01, demand 3, for every byte string: the fewest firings that a call answers are the least over the legal orders of that graph,
-- and a verdict says exactly whether demand is within each whole length from zero without end.
use mathlib.Core.Path.{◌≡◌, refl, ap, ◌∙◌}
use mathlib.Core.Bool.{Bool, true, false}
use mathlib.Core.Logic.{◌↔◌}
use mathlib.Core.List.{List, [], ◌∷◌, ◌++◌, append-nil}
use Prim.Native.Nat.{ℕ, zero, suc, ◌<◌, ◌≤◌}
use native.Mathlib.Nat.{lt_of_not-le, le_of_suc-le-suc, not-suc-le-zero}
use native.Mathlib.Omega.{arith}
use Rattle.std.specs.Prelude.{Ok, Err}
use lib.ListN.{length, get_or, drop}
use lib.Dec.{ltb, leb}
use lib.Seq.{append_snoc}
use borrow.Author.Tests.{ltb-true}
use Rattle.units.specs.declared.Ticks.{Ticks}
use Rattle.units.specs.Bounds.{max_graphs, max_outputs, max_repetition, max_ticks}
use Rattle.sdf.specs.Graph.{Graph, Sound, Reached}
use Rattle.sdf.specs.Order.{initial, Legal, firings, Fires, Lives, AtRest}
use Rattle.sdf.specs.Balance.{Balances, Once}
use Rattle.sdf.specs.Skip.{fewest}
use Rattle.sdf.proofs.Fewest.{fewest_minimum}
use Rattle.edf.specs.Demand.{Works, load, LateLength, Within}
use Rattle.edf.specs.Frame as frame
use Rattle.edf.proofs.Demand.{overload_late}
use Rattle.edf.specs.Bounds.{Bounded, AllBounded}
use Rattle.trial.specs.Flat.{vector}
use Rattle.sheet.specs.Answer.{Answer, Reply, unless}
use Rattle.sheet.specs.declared.Refusal.{Refusal}
use Rattle.sheet.specs.declared.Refusal.TheVariants.{Question, Number}
use Rattle.sheet.specs.Layout.{in_numbers}
use Rattle.sheet.specs.Fields.{in_range}
use Rattle.sheet.specs.Check.{stretch, first_walk, check_sheet, check_list}
use Rattle.sheet.specs.Forms.{layout_of, unpacked}
use Rattle.sheet.proofs.Walk.{Passed, walk_on}
use Rattle.sheet.proofs.Forms.{graphs_on}
use Rattle.ready.specs.Graphs.{Judged, drawn, behind, graph_at, judged, nothing, RepetitionNumbers, SkipNumbers, work_of, works_of}
use Rattle.ready.specs.Lines.{Outcome, refused, ready, Unless, fail, meet, With, given, Checked, graph_lines, frame_line, second_walk, list_lines, sheet_lines}
use Rattle.shambrukit.specs.declared.Load.{Load}
use Rattle.shambrukit.specs.declared.Verdict.{Verdict}
use Rattle.shambrukit.specs.declared.Verdict.TheVariants.{Accepted, Overload, Late, Refused}
use Rattle.shambrukit.specs.Verdict.{load_of, overload, late, accepted, VerdictBy, SheetVerdict, ListVerdict}
use Rattle.shambrukit.specs.Held.{Framed}
use Rattle.shambrukit.specs.Calls.{Told, SheetTold, ListTold, fewest_told}
use Rattle.ready.proofs.Sound.{times_length, drawn_sound, bounded_judged}

-- The graph at the start of l passes answers 4 to 11, and j is what judging it finds.
pub record Passes (l : List ℕ) (j : Judged) : Type 0 where
  pub passed : Passed in_numbers l
  pub range : in_range (layout_of l) l ≡ true
  pub reached : Reached (drawn l)
  pub balances : Balances (drawn l) max_repetition
  pub repetition : RepetitionNumbers (drawn l) j.repetition
  pub once : Once (drawn l) (vector j.repetition)
  pub lives : Lives (drawn l) (vector j.repetition)
  pub rest : AtRest (drawn l)
  pub skips : SkipNumbers (drawn l) j.skips
  pub numbers : j ≡ judged l j.repetition j.skips

-- The graphs of l, one after the other, pass, and js is what judging them finds.
data Walked : List ℕ → List Judged → Type 0 where
  end : {l : List ℕ} → Walked l []
  next : {l : List ℕ} {j : Judged} {js : List Judged} → Passes l j → Walked (drop (stretch in_numbers l) l) js → Walked l (j ∷ js)

walked_at : {l : List ℕ} {js : List Judged} → Walked l js → (i : ℕ) → i < length js → Passes (behind i l) (get_or js i nothing)
unfolding behind
walked_at end i h = absurd (not-suc-le-zero h)
walked_at (next p w) zero h = p
walked_at (next p w) (suc i) h = walked_at w i (le_of_suc-le-suc h)

module _ {js : List Judged} {F : ℕ} where
  -- A line that does not refuse.
  unless_met : {C : Type 0} {r : Refusal} {below : C → Outcome → Type 0} → Unless C r below (ready js F) → (c : C) × below c (ready js F)
  unless_met (fail n e) = absurd (let z : ◌≡◌ {A = ℕ} 0 1 = cc in omega arith)
  unless_met (meet c b) = (c, b)

  with_given : {X : List ℕ → Type 0} {below : List ℕ → Outcome → Type 0} → With X below (ready js F) → (x : List ℕ) × X x × below x (ready js F)
  with_given (given x k b) = (x, k, b)

  -- Lines that do not refuse: answers 1 to 5 do not, and the lines below do not.
  pub checked_on : (answer : Answer) (below : Outcome → Type 0) → Checked answer below (ready js F) → (answer ≡ Ok tt) × below (ready js F)
  checked_on (Ok _) below b = (refl, b)
  checked_on (Err r) below e = absurd (let z : ◌≡◌ {A = ℕ} 0 1 = cc in omega arith)

  graph_gives :
      (k : ℕ) (l : List ℕ) (below : Judged → Outcome → Type 0) → Passed in_numbers l → graph_lines k l below (ready js F) →
      (j : Judged) × Passes l j × below j (ready js F)
  unfolding graph_lines
  graph_gives k l below passed lines =
      let (range, a) = unless_met lines in
      let (reached, b) = unless_met a in
      let (balances, c) = unless_met b in
      let (q, repetition, d) = with_given c in
      let (once, e) = unless_met d in
      let (lives, f) = unless_met e in
      let (rest, h) = unless_met f in
      let (s, skips, i) = with_given h in (
        judged l q s,
        record {
          passed = passed;
          range = range;
          reached = reached;
          balances = balances;
          repetition = repetition;
          once = once;
          lives = lives;
          rest = rest;
          skips = skips;
          numbers = refl;
        },
        i,
      )

  frame_gives : (found : List Judged) → frame_line found (ready js F) → (js ≡ found) × Framed js F
  unfolding frame_line
  frame_gives found line =
      let ((G, f, h), e) = unless_met line in
      let same : js ≡ found = cc in
      let frame : F ≡ G = cc in
      (same, rw (same, frame) (f, h))

  -- A walk that ends in judged graphs: each graph that was to come passes.
  walk_gives :
      (n k : ℕ) (l : List ℕ) (before : List Judged) → first_walk in_numbers n k l ≡ Ok tt → second_walk n k l before (ready js F) →
      (found : List Judged) × (js ≡ before ++ found) × (length found ≡ n) × Walked l found × Framed js F
  unfolding second_walk
  walk_gives zero k l before first walk =
      let (e, f) = frame_gives before walk in
      ([], rw append-nil e, refl, end, f)
  walk_gives (suc n) k l before first walk =
      let (passed, later) = walk_on in_numbers n k l first in
      let (j, passes, rest) = graph_gives k l _ passed walk in
      let (found, e, count, walked, framed) = walk_gives n (suc k) (drop (stretch in_numbers l) l) (before ++ (j ∷ [])) later rest in
      (j ∷ found, e ∙ append_snoc before j found, ap suc count, next passes walked, framed)

-- What it means that the unpacked form l comes to the judged graphs js and the frame F.
pub record Ready (l : List ℕ) (js : List Judged) (F : ℕ) : Type 0 where
  pub count : length js ≡ get_or l 0 0
  pub some : 1 ≤ length js
  pub few : length js ≤ max_graphs
  pub graph : (i : ℕ) → i < length js → Passes (behind i (drop 1 l)) (get_or js i nothing)
  pub frame : frame.Frame (length js) (λ i. (get_or js i nothing).period) F
  pub bounded : F ≤ max_ticks

-- An unpacked form that is not refused.
pub list_gives : (l : List ℕ) {js : List Judged} {F : ℕ} → list_lines l (ready js F) → Ready l js F
unfolding list_lines check_list
list_gives l {js} {F} lines =
    let (on, walk) = checked_on (check_list l) _ lines in
    let graphs = graphs_on in_numbers (get_or l 0 0) (drop 1 l) on in
    let (found, e, count, walked, (frame, bounded)) = walk_gives (get_or l 0 0) 0 (drop 1 l) [] graphs.walk walk in
    let whole : length js ≡ get_or l 0 0 = cc in
    record {
      count = whole;
      some = omega (arith, graphs.some);
      few = omega (arith, graphs.few);
      graph = walked_at (rw (← e) at walked);
      frame = frame;
      bounded = bounded;
    }

-- A byte string that is not refused.
pub sheet_gives : (s : List ℕ) {js : List Judged} {F : ℕ} → sheet_lines s (ready js F) → Ready (unpacked s) js F
unfolding sheet_lines
sheet_gives s lines = list_gives (unpacked s) (checked_on (check_sheet s) _ lines).1

module _ {l : List ℕ} {j : Judged} (p : Passes l j) where
  -- A graph that passes is sound.
  pub passes_sound : Sound (drawn l)
  passes_sound = (drawn_sound l p.passed.counts p.passed.whole p.range).sound

  -- It has a worst-case time for each actor.
  pub passes_times : length j.times ≡ (drawn l).actors
  passes_times = ap (λ (j : Judged). length j.times) p.numbers ∙ times_length l p.passed.counts p.passed.whole

  -- What demand sees of it is within bounds.
  pub passes_bounded : Bounded (work_of j)
  passes_bounded =
      rw p.numbers (bounded_judged l p.passed.counts p.passed.whole p.range j.repetition j.skips p.reached p.balances p.repetition p.skips)

-- What demand sees of a sheet that is not refused is within bounds.
pub ready_bounded : {l : List ℕ} {js : List Judged} {F : ℕ} → Ready l js F → AllBounded (works_of js)
ready_bounded r = record { graphs = r.few; work = λ i h. passes_bounded (r.graph i h) }

-- n is the least number of firings of each actor over the legal orders with K firings of the output: one legal order has them
-- all, and none has fewer of any actor.
abbrev pub Least : Graph → ℕ → (ℕ → ℕ) → Type 0
Least g K n =
    ((order : List ℕ) × Legal g (initial g) order × Fires g n order × (firings g.output order ≡ K))
    × ((order : List ℕ) → Legal g (initial g) order → firings g.output order ≡ K → (v : ℕ) → v < g.actors → n v ≤ firings v order)

-- Of each graph of an unpacked form that is not refused, the fewest firings are the least, for every K.
pub list_fewest :
    {l : List ℕ} {js : List Judged} {F : ℕ} → Ready l js F → (i : ℕ) → i < length js → (K : ℕ) →
    Least (graph_at l i) K (fewest (vector (get_or js i nothing).repetition) (vector (get_or js i nothing).skips) K)
list_fewest r i h K =
    let p = r.graph i h in
    fewest_minimum (passes_sound p) p.repetition.repetition.balanced p.once.output p.lives p.skips.skips K

-- So they are of each graph of a byte string that is not refused.
pub sheet_fewest :
    (s : List ℕ) (js : List Judged) (F : ℕ) → sheet_lines s (ready js F) → (i : ℕ) → i < length js → (K : ℕ) →
    Least (graph_at (unpacked s) i) K (fewest (vector (get_or js i nothing).repetition) (vector (get_or js i nothing).skips) K)
sheet_fewest s js F lines = list_fewest (sheet_gives s lines)

told_value : {n : ℕ} (b : Bool) (r : Refusal) (below : Reply) → Ok n ≡ unless b r below → (b ≡ true) × (Ok n ≡ below)
told_value true r below e = (refl, e)
told_value false r below e = absurd (let z : ◌≡◌ {A = ℕ} 0 1 = cc in omega arith)

-- n is the least number of firings of actor v over the legal orders with K firings of the output.
abbrev pub LeastOf : Graph → ℕ → ℕ → ℕ → Type 0
LeastOf g K v n =
    ((order : List ℕ) × Legal g (initial g) order × (firings v order ≡ n) × (firings g.output order ≡ K))
    × ((order : List ℕ) → Legal g (initial g) order → firings g.output order ≡ K → n ≤ firings v order)

told_least :
    {l : List ℕ} {js : List Judged} {F : ℕ} → Ready l js F → (i v K n : ℕ) → Ok n ≡ fewest_told (ready js F) i v K →
    LeastOf (graph_at l i) K v n
told_least {l} {js} ready_of i v K n e =
    let j : Judged = get_or js i nothing in
    let firings_of : ℕ = fewest (vector j.repetition) (vector j.skips) K v in
    let question : Reply = unless (leb K max_outputs) Question (Ok firings_of) in
    let (graph, e) = told_value (ltb i (length js)) Number (unless (ltb v (length j.times)) Number question) e in
    let (actor, e) = told_value (ltb v (length j.times)) Number question e in
    let (_, e) = told_value (leb K max_outputs) Question (Ok firings_of) e in
    let same : n ≡ firings_of = cc in
    let h : i < length js = ltb-true _ _ graph in
    let p = ready_of.graph i h in
    let below : v < (graph_at l i).actors = omega (arith, ltb-true v (length j.times) actor, passes_times p) in
    let ((order, legal, fires, outputs), least) = list_fewest ready_of i h K in
    rw same ((order, legal, fires v below, outputs), λ order legal outputs. least order legal outputs v below)

-- Demand within every length keeps the load within the frame.
fits : (ws : Works) {F : ℕ} → frame.CommonMultiple ws.graphs (λ i. (ws.work i).period) F → Within ws → load ws F ≤ F
fits ws {F} common all =
    le_of_suc-le-suc (lt_of_not-le (λ over. let (t, h) = overload_late ws common over in omega (arith, all t)))

-- What the lines come to where a verdict is given.
abbrev pub Means : (Outcome → Type 0) → Verdict → Type 0
Means lines (Refused r) = lines (refused r)
Means lines (Accepted w) = (js : List Judged) × (F : ℕ) × lines (ready js F) × (w ≡ load_of (works_of js) F) × Within (works_of js)
Means lines (Overload w) = (js : List Judged) × (F : ℕ) × lines (ready js F) × (w ≡ load_of (works_of js) F) × (F < load (works_of js) F)
Means lines (Late w t) =
    (js : List Judged) × (F : ℕ) × lines (ready js F) × (w ≡ load_of (works_of js) F) × (load (works_of js) F ≤ F) × LateLength (works_of js) t.n

module _ {l : List ℕ} (lines : Outcome → Type 0) (gives : (js : List Judged) (F : ℕ) → lines (ready js F) → Ready l js F) where
  call_least : (i v K n : ℕ) → Told lines (λ o. fewest_told o i v K) (Ok n) → LeastOf (graph_at l i) K v n
  call_least i v K n (refused r, h, e) = absurd (let z : ◌≡◌ {A = ℕ} 0 1 = cc in omega arith)
  call_least i v K n (ready js F, h, e) = told_least (gives js F h) i v K n e

  means : (v : Verdict) → VerdictBy lines v → Means lines v
  unfolding VerdictBy
  means v (refused r, h, e) = rw e h
  means v (ready js F, h, overload a e) = rw e (js, F, h, refl, a)
  means v (ready js F, h, late a t b e) = rw e (js, F, h, refl, a, b)
  means v (ready js F, h, accepted a b e) = rw e (js, F, h, refl, b)

  meant : (v : Verdict) → Means lines v → VerdictBy lines v
  unfolding VerdictBy
  meant (Refused r) h = (refused r, h, refl)
  meant (Accepted w) (js, F, h, e, a) = (ready js F, h, accepted (fits (works_of js) (gives js F h).frame.common a) a (ap Accepted e))
  meant (Overload w) (js, F, h, e, a) = (ready js F, h, overload a (ap Overload e))
  meant (Late w t) (js, F, h, e, a, b) = (ready js F, h, late a t.n b (ap (λ (w : Load). Late w t) e))

-- What the call answers as the fewest firings of an actor is the least number over the legal orders of the graph asked for.
pub sheet_told_least :
    (s : List ℕ) (i v K n : ℕ) → SheetTold s (λ o. fewest_told o i v K) (Ok n) → LeastOf (graph_at (unpacked s) i) K v n
sheet_told_least s = call_least (sheet_lines s) (λ js F. sheet_gives s)

-- So it is for the unpacked form.
pub list_told_least : (l : List ℕ) (i v K n : ℕ) → ListTold l (λ o. fewest_told o i v K) (Ok n) → LeastOf (graph_at l i) K v n
list_told_least l = call_least (list_lines l) (λ js F. list_gives l)

-- Each verdict on a byte string is given exactly if the lines come to what it means.
pub verdict_exactly : (s : List ℕ) (v : Verdict) → SheetVerdict s v ↔ Means (sheet_lines s) v
verdict_exactly s v = (means (sheet_lines s) (λ js F. sheet_gives s) v, meant (sheet_lines s) (λ js F. sheet_gives s) v)

-- So it is on an unpacked form.
pub list_verdict_exactly : (l : List ℕ) (v : Verdict) → ListVerdict l v ↔ Means (list_lines l) v
list_verdict_exactly l v = (means (list_lines l) (λ js F. list_gives l) v, meant (list_lines l) (λ js F. list_gives l) v)

-- A byte string is accepted exactly if no line refuses it and demand is at most the length at each whole length from zero.
pub accepted_exactly :
    (s : List ℕ) (w : Load) → SheetVerdict s (Accepted w)
    ↔ ((js : List Judged) × (F : ℕ) × sheet_lines s (ready js F) × (w ≡ load_of (works_of js) F) × Within (works_of js))
accepted_exactly s w = verdict_exactly s (Accepted w)

-- It is late at t exactly if no line refuses it, the load is at most the frame, and t is the smallest length below its demand.
pub late_exactly :
    (s : List ℕ) (w : Load) (t : Ticks) → SheetVerdict s (Late w t)
    ↔ ((js : List Judged) × (F : ℕ) × sheet_lines s (ready js F) × (w ≡ load_of (works_of js) F) × (load (works_of js) F ≤ F)
    × LateLength (works_of js) t.n)
late_exactly s w t = verdict_exactly s (Late w t)
