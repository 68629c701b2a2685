-- 01, The answer table, answers 1 to 12 in their order. Each line's condition is what document 01 says of the graph, not how it is
-- tested.
use Rattle.std.specs.Prelude.{◌≡◌, true, List, [], ◌∷◌, ◌++◌, ℕ, zero, suc, ◌≤◌, Ok, Err, get_or, drop}
use Rattle.units.specs.Bounds.{max_repetition, max_ticks}
use Rattle.sdf.specs.Graph.{Reached}
use Rattle.sdf.specs.Order.{Lives, AtRest}
use Rattle.sdf.specs.Balance.{Balances, Once}
use Rattle.edf.specs.Frame as frame
use Rattle.trial.specs.Flat.{vector}
use Rattle.sheet.specs.declared.Refusal.{Refusal}
use Rattle.sheet.specs.declared.Refusal.TheVariants.{Range, Reach, Balance, NotOnce, Deadlock, Restless, Frame}
use Rattle.sheet.specs.Answer.{Answer}
use Rattle.sheet.specs.Layout.{in_numbers}
use Rattle.sheet.specs.Fields.{in_range}
use Rattle.sheet.specs.Check.{stretch, check_sheet, check_list}
use Rattle.sheet.specs.Forms.{layout_of, unpacked}
use Rattle.ready.specs.Graphs.{Judged, drawn, judged, RepetitionNumbers, SkipNumbers, works_of}

-- What the lines come to: a refusal, or the judged graphs and their frame.
pub data Outcome : Type 0 where
  refused : Refusal → Outcome
  ready : List Judged → ℕ → Outcome

-- A line: unless C holds, its refusal; where it does, the lines below.
pub data Unless (C : Type 0) (r : Refusal) (below : C → Outcome → Type 0) (o : Outcome) : Type 0 where
  fail : (¬ C) → o ≡ refused r → Unless C r below o
  meet : (c : C) → below c o → Unless C r below o

-- The lines below speak of the one thing that X describes.
pub data With (X : List ℕ → Type 0) (below : List ℕ → Outcome → Type 0) (o : Outcome) : Type 0 where
  given : (x : List ℕ) → X x → below x o → With X below o

-- Answers 1 to 5, which are found by looking, and the lines below.
abbrev pub Checked : Answer → (Outcome → Type 0) → Outcome → Type 0
Checked (Ok _) below o = below o
Checked (Err r) below o = o ≡ refused r

-- Answers 6 to 11 for the graph numbered k at the start of l.
unfoldable pub graph_lines : ℕ → List ℕ → (Judged → Outcome → Type 0) → Outcome → Type 0
graph_lines k l below =
    let g = drawn l in
    Unless (in_range (layout_of l) l ≡ true) (Range k) (λ _.
    Unless (Reached g) (Reach k) (λ _.
    Unless (Balances g max_repetition) (Balance k) (λ _.
    With (RepetitionNumbers g) (λ q.
    Unless (Once g (vector q)) (NotOnce k) (λ _.
    Unless (Lives g (vector q)) (Deadlock k) (λ _.
    Unless (AtRest g) (Restless k) (λ _.
    With (SkipNumbers g) (λ s. below (judged l q s)))))))))

-- Answer 12, over the judged graphs.
unfoldable pub frame_line : List Judged → Outcome → Type 0
frame_line js =
    let ws = works_of js in
    Unless ((F : ℕ) × frame.Frame ws.graphs (λ i. (ws.work i).period) F × (F ≤ max_ticks)) Frame (λ f o. o ≡ ready js f.0)

-- 01, Order, second walk: n graphs to come, the next one numbered k, those before it judged.
unfoldable pub second_walk : ℕ → ℕ → List ℕ → List Judged → Outcome → Type 0
second_walk zero k l js = frame_line js
second_walk (suc n) k l js = graph_lines k l (λ j. second_walk n (suc k) (drop (stretch in_numbers l) l) (js ++ (j ∷ [])))

-- Answers 3 to 12 for the unpacked form.
unfoldable pub list_lines : List ℕ → Outcome → Type 0
list_lines l = Checked (check_list l) (second_walk (get_or l 0 0) 0 (drop 1 l) [])

-- Answers 1 to 12 for a byte string: once it is found whole, those of its unpacked form.
unfoldable pub sheet_lines : List ℕ → Outcome → Type 0
sheet_lines s = Checked (check_sheet s) (list_lines (unpacked s))
