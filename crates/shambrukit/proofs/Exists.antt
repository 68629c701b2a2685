-- 01, the answer table: every byte string and every list has an outcome and a verdict. Each line is decided, given what the lines
-- before it met. On small closed sheets this computes.
use mathlib.Core.Path.{◌≡◌, refl, ap}
use mathlib.Core.Bool.{Bool, true, false}
use mathlib.Core.Logic.{◌⊎◌, inl, inr}
use mathlib.Core.List.{List, [], ◌∷◌, ◌++◌}
use Prim.Native.Nat.{ℕ, zero, suc, ◌+◌, ◌%◌, ◌<◌, ◌≤◌}
use native.Mathlib.Nat.{le_of_suc-le-suc, lt_of_not-le, not-suc-le-zero, dvd_iff_mod-eq-zero}
use native.Mathlib.Omega.{arith}
use Rattle.std.specs.Prelude.{Ok, Err}
use lib.ListN.{length, get_or, drop}
use Rattle.units.specs.Bounds.{max_repetition, max_ticks}
use Rattle.sdf.specs.Graph.{Graph, Sound}
use Rattle.sdf.specs.Balance.{Repetition}
use Rattle.sdf.specs.Skip.{Skips, fewest}
use Rattle.sdf.specs.Sum.{sum_to}
use Rattle.sdf.proofs.Numbers.{lt_or_ge, eq_or_ne}
use Rattle.sdf.proofs.Settle.{below_suc}
use Rattle.sdf.proofs.Reach.{reached_or_not}
use Rattle.sdf.proofs.Balance.{balances_or_not}
use Rattle.sdf.proofs.Skip.{skips_exist}
use Rattle.sdf.proofs.Decide.{Decided, same_or_not, both_or_not, all_or_not, le_or_not, rest_or_not, once_or_not, lives_or_not}
use Rattle.edf.specs.Arrivals.{due}
use Rattle.edf.specs.Demand.{Works, cost, blocks, demand, iteration, load}
use Rattle.edf.specs.Frame.{CommonMultiple, Frame}
use Rattle.edf.proofs.Demand.{within_from_frame}
use Rattle.trial.specs.Flat.{vector}
use Rattle.sheet.specs.Answer.{Answer}
use Rattle.sheet.specs.declared.Refusal.{Refusal}
use Rattle.sheet.specs.Layout.{fixed_part, actor_part, channel_part, times, layout, total, in_numbers}
use Rattle.sheet.specs.Fields.{big_endian, numbers, in_range}
use Rattle.sheet.specs.Check.{sized, stretch, graph_check, first_walk, check_graphs, check_sheet, check_list}
use Rattle.sheet.specs.Forms.{layout_of, graphs_numbers, unpacked}
use Rattle.sheet.proofs.Walk.{Passed, walk_on}
use Rattle.sheet.proofs.Forms.{graphs_on}
use Rattle.shambrukit.specs.declared.Verdict.{Verdict}
use Rattle.shambrukit.specs.declared.Verdict.TheVariants.{Accepted, Overload, Late, Refused}
use Rattle.ready.specs.Graphs.{Judged, drawn, judged, RepetitionNumbers, SkipNumbers, works_of}
use Rattle.ready.specs.Lines.{Outcome, refused, ready, Unless, fail, meet, With, given, Checked, graph_lines, frame_line, second_walk, list_lines, sheet_lines}
use Rattle.shambrukit.specs.Verdict.{load_of, Judgement, overload, late, accepted, VerdictOf, VerdictBy, SheetVerdict, ListVerdict}
use Rattle.ready.proofs.Sound.{drawn_sound}
use Rattle.ready.proofs.Agree.{repetition_agrees, skips_agree}
use Rattle.shambrukit.proofs.Minimum.{list_gives, sheet_gives}

-- The first n entries of a vector, as a list.
unfoldable pub entries : (ℕ → ℕ) → ℕ → List ℕ
entries x zero = []
entries x (suc n) = x 0 ∷ entries (λ v. x (suc v)) n

entries_length : (x : ℕ → ℕ) (n : ℕ) → length (entries x n) ≡ n
unfolding entries
entries_length x zero = refl
entries_length x (suc n) = ap suc (entries_length (λ v. x (suc v)) n)

entries_at : (x : ℕ → ℕ) (n v : ℕ) → v < n → vector (entries x n) v ≡ x v
unfolding entries
entries_at x zero v h = absurd (not-suc-le-zero h)
entries_at x (suc n) zero h = refl
entries_at x (suc n) (suc v) h = entries_at (λ v. x (suc v)) n v (le_of_suc-le-suc h)

module _ (g : Graph) (sound : Sound g) (x : ℕ → ℕ) where
  same : (v : ℕ) → v < g.actors → vector (entries x g.actors) v ≡ x v
  same = entries_at x g.actors

  -- The repetition vector as a list.
  pub listed_repetition : Repetition g x → RepetitionNumbers g (entries x g.actors)
  listed_repetition r = record { each = entries_length x g.actors; repetition = repetition_agrees g sound same r }

  -- The skip vector as a list.
  pub listed_skips : Skips g x → SkipNumbers g (entries x g.actors)
  listed_skips k = record { each = entries_length x g.actors; skips = skips_agree g sound same k }

-- An outcome of the lines below is an outcome of the line.
unfoldable through : {above below : Outcome → Type 0} → ((o : Outcome) → below o → above o) → (o : Outcome) × below o → (o : Outcome) × above o
through f (o, b) = (o, f o b)

module _ {A C : Type 0} {r : Refusal} {below : C → Outcome → Type 0} where
  -- A line whose condition is found to hold, by A, or not to hold.
  unfoldable unless_found : (f : A → C) → A ⊎ (¬ C) → ((a : A) → (o : Outcome) × below (f a) o) → (o : Outcome) × Unless C r below o
  unfolding through
  unless_found f d lines = elim d [ inl a ↦ through (λ o. meet (f a)) (lines a) | inr n ↦ (refused r, fail n refl) ]

module _ {C : Type 0} {r : Refusal} {below : C → Outcome → Type 0} where
  -- A line whose condition is decided.
  unfoldable unless_exists : Decided C → ((c : C) → (o : Outcome) × below c o) → (o : Outcome) × Unless C r below o
  unfolding unless_found
  unless_exists = unless_found (λ c. c)

-- Lines that speak of one thing.
unfoldable with_exists :
    {X : List ℕ → Type 0} {below : List ℕ → Outcome → Type 0} (x : List ℕ) → X x → (o : Outcome) × below x o → (o : Outcome) × With X below o
unfolding through
with_exists x k = through (λ o. given x k)

unfoldable checked_exists :
    (answer : Answer) (below : Outcome → Type 0) → (answer ≡ Ok tt → (o : Outcome) × below o) → (o : Outcome) × Checked answer below o
checked_exists (Ok _) below lines = lines refl
checked_exists (Err r) below lines = (refused r, refl)

unfoldable true_or_not : (b : Bool) → Decided (b ≡ true)
true_or_not true = inl refl
true_or_not false = inr (λ e. let z : ◌≡◌ {A = ℕ} 0 1 = cc in omega arith)

-- Answers 6 to 11.
unfoldable graph_exists :
    (k : ℕ) (l : List ℕ) (below : Judged → Outcome → Type 0) → Passed in_numbers l → ((j : Judged) → (o : Outcome) × below j o) →
    (o : Outcome) × graph_lines k l below o
unfolding graph_lines unless_found unless_exists with_exists true_or_not entries reached_or_not balances_or_not once_or_not lives_or_not rest_or_not skips_exist in_range
graph_exists k l below passed lines =
    let g = drawn l in
    unless_exists (true_or_not (in_range (layout_of l) l)) (λ range.
    let sound = (drawn_sound l passed.counts passed.whole range).sound in
    unless_exists (reached_or_not g sound) (λ reached.
    unless_found (λ (x, r, most). (x, r.balanced, most)) (balances_or_not g sound max_repetition) (λ (x, r, most).
    let q = entries x g.actors in
    with_exists q (listed_repetition g sound x r) (
    unless_exists (once_or_not g (vector q)) (λ once.
    unless_exists (lives_or_not g sound (vector q)) (λ lives.
    unless_exists (rest_or_not g) (λ rest.
    let (y, k) = skips_exist g sound reached in
    let s = entries y g.actors in
    with_exists s (listed_skips g sound y k) (lines (judged l q s)))))))))

module _ {P : ℕ → Type 0} (each : (i : ℕ) → Decided (P i)) (n : ℕ) where
  -- The smallest number below n of which P holds, or there is none.
  abbrev Smallest : Type 0
  Smallest = ((i : ℕ) × (i < n) × P i × ((j : ℕ) → j < i → ¬ P j)) ⊎ ((i : ℕ) → i < n → ¬ P i)

  unfoldable search : (k i : ℕ) → i + k ≡ n → ((j : ℕ) → j < i → ¬ P j) → Smallest
  search zero i e before = inr (λ j l. before j (omega arith))
  search (suc k) i e before =
      elim (each i) [ inl p ↦ inl (i, omega arith, p, before) | inr q ↦ search k (suc i) (omega arith) (below_suc (λ j. ¬ P j) i before q) ]

  unfoldable smallest_or_none : Smallest
  unfolding search
  smallest_or_none = search n 0 (omega arith) (λ j l. absurd (not-suc-le-zero l))

unfoldable common_or_not : (n : ℕ) (p : ℕ → ℕ) (m : ℕ) → Decided (CommonMultiple n p m)
unfolding same_or_not both_or_not all_or_not le_or_not eq_or_ne
common_or_not n p m =
    same_or_not (λ x. record { positive = x.0; multiple = x.1 }) (λ c. (c.positive, c.multiple))
    (both_or_not (le_or_not 1 m) (all_or_not (λ i. same_or_not (dvd_iff_mod-eq-zero (p i)).1 (dvd_iff_mod-eq-zero (p i)).0 (eq_or_ne (m % p i) 0)) n))

-- The frame within the bound, or it is above it.
unfoldable frame_or_not : (n : ℕ) (p : ℕ → ℕ) (bound : ℕ) → Decided ((F : ℕ) × Frame n p F × (F ≤ bound))
unfolding smallest_or_none common_or_not
frame_or_not n p bound =
    elim (smallest_or_none (common_or_not n p) (suc bound)) [
      | inl (F, l, c, none) ↦ inl (F, record { common = c; least = λ m d. le_of_suc-le-suc (lt_of_not-le (λ h. none m h d)) }, le_of_suc-le-suc l)
      | inr none ↦ inr (λ (F, f, h). none F (omega arith) f.common)
    ]

-- Answer 12.
unfoldable frame_exists : (js : List Judged) → (o : Outcome) × frame_line js o
unfolding frame_line unless_exists frame_or_not
frame_exists js =
    let ws = works_of js in
    unless_exists (frame_or_not ws.graphs (λ i. (ws.work i).period) max_ticks) (λ f. (ready js f.0, refl))

-- Answers 6 to 12.
unfoldable walk_exists : (n k : ℕ) (l : List ℕ) (js : List Judged) → first_walk in_numbers n k l ≡ Ok tt → (o : Outcome) × second_walk n k l js o
unfolding second_walk graph_exists frame_exists
walk_exists zero k l js e = frame_exists js
walk_exists (suc n) k l js e =
    let (passed, later) = walk_on in_numbers n k l e in
    graph_exists k l _ passed (λ j. walk_exists n (suc k) (drop (stretch in_numbers l) l) (js ++ (j ∷ [])) later)

-- Every list has an outcome.
unfoldable pub list_exists : (l : List ℕ) → (o : Outcome) × list_lines l o
unfolding list_lines check_list check_graphs first_walk graph_check sized stretch total layout fixed_part actor_part channel_part times checked_exists walk_exists
list_exists l =
    checked_exists (check_list l) _ (λ e. walk_exists (get_or l 0 0) 0 (drop 1 l) [] (graphs_on in_numbers (get_or l 0 0) (drop 1 l) e).walk)

-- Every byte string has an outcome.
unfoldable pub sheet_exists : (s : List ℕ) → (o : Outcome) × sheet_lines s o
unfolding sheet_lines check_sheet big_endian numbers unpacked graphs_numbers checked_exists list_exists
sheet_exists s = checked_exists (check_sheet s) _ (λ e. list_exists (unpacked s))

-- Answers 20, 21 and 0.
unfoldable judgement_exists :
    (ws : Works) (F : ℕ) → CommonMultiple ws.graphs (λ i. (ws.work i).period) F → (v : Verdict) × Judgement ws F v
unfolding lt_or_ge smallest_or_none le_or_not load iteration demand cost blocks due fewest sum_to
judgement_exists ws F common =
    elim (lt_or_ge F (load ws F)) [
      | inl over ↦ (Overload (load_of ws F), overload over refl)
      | inr fits ↦ elim (smallest_or_none (λ t. le_or_not (suc t) (demand ws t)) F) [
        | inl (t, l, h, none) ↦ (Late (load_of ws F) (record { n = t }), late fits t (record { late = h; smallest = none }) refl)
        | inr none ↦ (Accepted (load_of ws F), accepted fits (within_from_frame ws common fits (λ t l. le_of_suc-le-suc (lt_of_not-le (none t l)))) refl)
      ]
    ]

unfoldable verdict_of_exists :
    (o : Outcome) → ((js : List Judged) (F : ℕ) → o ≡ ready js F → CommonMultiple (length js) (λ i. ((works_of js).work i).period) F) →
    (v : Verdict) × VerdictOf o v
unfolding judgement_exists
verdict_of_exists (refused r) common = (Refused r, refl)
verdict_of_exists (ready js F) common = judgement_exists (works_of js) F (common js F refl)

-- Every byte string has a verdict.
unfoldable pub verdict_exists : (s : List ℕ) → (v : Verdict) × SheetVerdict s v
unfolding VerdictBy sheet_exists verdict_of_exists
verdict_exists s =
    let (o, lines) = sheet_exists s in
    let (v, means) = verdict_of_exists o (λ js F e. (sheet_gives s (rw e at lines)).frame.common) in
    (v, (o, lines, means))

-- Every list has a verdict.
unfoldable pub list_verdict_exists : (l : List ℕ) → (v : Verdict) × ListVerdict l v
unfolding VerdictBy list_exists verdict_of_exists
list_verdict_exists l =
    let (o, lines) = list_exists l in
    let (v, means) = verdict_of_exists o (λ js F e. (list_gives l (rw e at lines)).frame.common) in
    (v, (o, lines, means))
