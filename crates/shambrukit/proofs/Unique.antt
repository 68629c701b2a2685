-- 01, What the contracts settle: any two results that the answer table allows for one input are equal.
use mathlib.Core.Path.{◌≡◌, sym, ap, ap₂, ◌∙◌}
use mathlib.Core.List.{List, [], ◌∷◌, ◌++◌}
use Prim.Native.Nat.{ℕ, zero, suc, ◌<◌}
use native.Mathlib.Omega.{arith}
use Rattle.std.specs.Prelude.{Ok, Err}
use lib.ListN.{length, get_or, drop}
use lib.Seq.{ext_get_or}
use Rattle.sdf.specs.Graph.{Graph}
use Rattle.sdf.proofs.Balance.{repetition_one}
use Rattle.sdf.proofs.Skip.{skips_one}
use Rattle.edf.specs.Demand.{Works}
use Rattle.edf.proofs.Demand.{late_one}
use Rattle.edf.proofs.Frame.{frame_one}
use Rattle.trial.specs.Flat.{vector}
use Rattle.sheet.specs.declared.Refusal.{Refusal}
use Rattle.sheet.specs.Answer.{Answer, Reply, filled}
use Rattle.sheet.specs.Layout.{in_numbers}
use Rattle.sheet.specs.Check.{stretch, check_sheet, check_list}
use Rattle.sheet.specs.Forms.{unpacked}
use Rattle.shambrukit.specs.declared.Verdict.{Verdict}
use Rattle.ready.specs.Graphs.{Judged, drawn, judged, RepetitionNumbers, SkipNumbers, works_of}
use Rattle.ready.specs.Lines.{Outcome, refused, ready, Unless, fail, meet, With, given, Checked, graph_lines, frame_line, second_walk, list_lines, sheet_lines}
use Rattle.shambrukit.specs.Verdict.{Judgement, overload, late, accepted, VerdictOf, VerdictBy, SheetVerdict, ListVerdict, row_of}
use Rattle.shambrukit.specs.Calls.{Told, Fills, SheetTold, ListTold, SheetFills, ListFills, reply_of}
use Rattle.shambrukit.specs.C.{RowBy, SaysBy, LendsBy, SheetRow, ListRow, SheetSays, ListSays, SheetLends, ListLends}

-- Lists of one length that agree at each place are equal.
same_numbers : (n : ℕ) {x y : List ℕ} → length x ≡ n → length y ≡ n → ((v : ℕ) → v < n → vector x v ≡ vector y v) → x ≡ y
same_numbers n {x} {y} p q each = ext_get_or 0 x y (cc) (λ v h. each v (omega arith))

module _ (g : Graph) {x y : List ℕ} where
  -- A graph has one list of repetition numbers.
  pub repetition_numbers_one : RepetitionNumbers g x → RepetitionNumbers g y → x ≡ y
  repetition_numbers_one a b = same_numbers g.actors a.each b.each (repetition_one g (vector x) (vector y) a.repetition b.repetition)

  -- A graph has one list of skips.
  pub skip_numbers_one : SkipNumbers g x → SkipNumbers g y → x ≡ y
  skip_numbers_one a b = same_numbers g.actors a.each b.each (skips_one g (vector x) (vector y) a.skips b.skips)

module _ {o p : Outcome} where
  -- A line allows one outcome if the lines below it do.
  unless_one :
      {C : Type 0} {r : Refusal} {below : C → Outcome → Type 0} → ((c d : C) → below c o → below d p → o ≡ p) →
      Unless C r below o → Unless C r below p → o ≡ p
  unless_one one (fail n e) (fail m d) = e ∙ sym d
  unless_one one (fail n e) (meet c b) = absurd (n c)
  unless_one one (meet c b) (fail n e) = absurd (n c)
  unless_one one (meet c b) (meet d a) = one c d b a

  -- The lines below speak of one thing and allow one outcome of it.
  with_one :
      {X : List ℕ → Type 0} {below : List ℕ → Outcome → Type 0} → ((x y : List ℕ) → X x → X y → x ≡ y) →
      ((x : List ℕ) → below x o → below x p → o ≡ p) → With X below o → With X below p → o ≡ p
  with_one {X} {below} same one (given x k b) (given y m a) = one x b (rw (← (same x y k m)) at a)

  checked_one : (answer : Answer) (below : Outcome → Type 0) → (below o → below p → o ≡ p) → Checked answer below o → Checked answer below p → o ≡ p
  checked_one (Ok _) below one b a = one b a
  checked_one (Err r) below one b a = b ∙ sym a

  -- Answers 6 to 11.
  graph_one :
      (k : ℕ) (l : List ℕ) (below : Judged → Outcome → Type 0) → ((j : Judged) → below j o → below j p → o ≡ p) →
      graph_lines k l below o → graph_lines k l below p → o ≡ p
  unfolding graph_lines
  graph_one k l below one =
      let g = drawn l in
      unless_one (λ _ _.
      unless_one (λ _ _.
      unless_one (λ _ _.
      with_one (λ x y. repetition_numbers_one g) (λ q.
      unless_one (λ _ _.
      unless_one (λ _ _.
      unless_one (λ _ _.
      with_one (λ x y. skip_numbers_one g) (λ s.
      one (judged l q s)))))))))

  -- Answer 12.
  frame_line_one : (js : List Judged) → frame_line js o → frame_line js p → o ≡ p
  unfolding frame_line
  frame_line_one js = unless_one (λ f h e d. e ∙ ap (ready js) (frame_one f.1 h.1) ∙ sym d)

  -- Answers 6 to 12.
  pub walk_one : (n k : ℕ) (l : List ℕ) (js : List Judged) → second_walk n k l js o → second_walk n k l js p → o ≡ p
  unfolding second_walk
  walk_one zero k l js = frame_line_one js
  walk_one (suc n) k l js = graph_one k l _ (λ j. walk_one n (suc k) (drop (stretch in_numbers l) l) (js ++ (j ∷ [])))

  -- A list has at most one outcome.
  pub lines_one : (l : List ℕ) → list_lines l o → list_lines l p → o ≡ p
  unfolding list_lines
  lines_one l = checked_one (check_list l) _ (walk_one (get_or l 0 0) 0 (drop 1 l) [])

  -- A byte string has at most one outcome.
  pub sheet_one : (s : List ℕ) → sheet_lines s o → sheet_lines s p → o ≡ p
  unfolding sheet_lines
  sheet_one s = checked_one (check_sheet s) _ (lines_one (unpacked s))

-- Answers 20, 21 and 0.
judgement_one : (ws : Works) (frame : ℕ) {v w : Verdict} → Judgement ws frame v → Judgement ws frame w → v ≡ w
judgement_one ws frame (overload h e) (overload k d) = cc
judgement_one ws frame (overload h e) (late k t a d) = absurd (omega arith)
judgement_one ws frame (overload h e) (accepted k a d) = absurd (omega arith)
judgement_one ws frame (late h t a e) (overload k d) = absurd (omega arith)
judgement_one ws frame (late h t a e) (late k u b d) = e ∙ rw (late_one ws a b) (sym d)
judgement_one ws frame (late h t a e) (accepted k b d) = absurd (omega (arith, a.late, b t))
judgement_one ws frame (accepted h a e) (overload k d) = absurd (omega arith)
judgement_one ws frame (accepted h a e) (late k t b d) = absurd (omega (arith, b.late, a t))
judgement_one ws frame (accepted h a e) (accepted k b d) = cc

verdict_of_one : (o : Outcome) {v w : Verdict} → VerdictOf o v → VerdictOf o w → v ≡ w
verdict_of_one (refused r) a b = cc
verdict_of_one (ready js frame) a b = judgement_one (works_of js) frame a b

-- At most one outcome is allowed.
abbrev pub AtMostOne : (Outcome → Type 0) → Type 0
AtMostOne lines = (o p : Outcome) → lines o → lines p → o ≡ p

-- Lines with one outcome, and one answer to each outcome: one answer.
module _ {lines : Outcome → Type 0} (one : AtMostOne lines) where
  -- There is at most one verdict.
  verdict_by_one : {v w : Verdict} → VerdictBy lines v → VerdictBy lines w → v ≡ w
  unfolding VerdictBy
  verdict_by_one (o, h, x) (p, k, y) = verdict_of_one p (rw (one o p h k) at x) y

  -- A call that goes by the outcome has at most one answer.
  told_one : {A : Type 0} (call : Outcome → A) {a b : A} → Told lines call a → Told lines call b → a ≡ b
  told_one call (o, h, e) (p, k, d) = e ∙ ap call (one o p h k) ∙ sym d

  -- A call that fills lent memory has one answer and leaves one content.
  fill_one :
      (call : Outcome → Reply) (result : Outcome → List ℕ) (before : List ℕ) {w v : Reply} {x y : List ℕ} →
      Fills lines call result w before x → Fills lines call result v before y → (w ≡ v) × (x ≡ y)
  fill_one call result before {w} {v} (o, h, e, m) (p, k, d, n) =
      let same = one o p h k in
      let answer : w ≡ v = e ∙ ap call same ∙ sym d in
      (answer, m ∙ ap₂ (λ a b. filled a (result b) before) answer same ∙ sym n)

  -- So do the C entries: one row of numbers for a verdict, one for a question, one with one final content for lent memory.
  row_by_one : {x y : List ℕ} → RowBy lines x → RowBy lines y → x ≡ y
  row_by_one (v, a, e) (w, b, d) = e ∙ ap row_of (verdict_by_one a b) ∙ sym d

  says_by_one : (call : Outcome → Reply) {x y : List ℕ} → SaysBy lines call x → SaysBy lines call y → x ≡ y
  says_by_one call (v, a, e) (w, b, d) = e ∙ ap reply_of (told_one call a b) ∙ sym d

  lends_by_one :
      (call : Outcome → Reply) (result : Outcome → List ℕ) (before : List ℕ) {r t x y : List ℕ} →
      LendsBy lines call result r before x → LendsBy lines call result t before y → (r ≡ t) × (x ≡ y)
  lends_by_one call result before (v, a, e) (w, b, d) =
      let same = fill_one call result before a b in
      (e ∙ ap reply_of same.0 ∙ sym d, same.1)

-- Of a byte string: at most one verdict, one answer to a question, one answer and one final content of lent memory, and one row of
-- numbers that a C entry returns.
module _ (s : List ℕ) where
  pub verdict_one : {v w : Verdict} → SheetVerdict s v → SheetVerdict s w → v ≡ w
  verdict_one = verdict_by_one (λ o p. sheet_one s)

  pub calls_one : {A : Type 0} (call : Outcome → A) {a b : A} → SheetTold s call a → SheetTold s call b → a ≡ b
  calls_one = told_one (λ o p. sheet_one s)

  pub fills_one :
      (call : Outcome → Reply) (result : Outcome → List ℕ) (before : List ℕ) {w v : Reply} {x y : List ℕ} →
      SheetFills s call result w before x → SheetFills s call result v before y → (w ≡ v) × (x ≡ y)
  fills_one = fill_one (λ o p. sheet_one s)

  pub row_one : {x y : List ℕ} → SheetRow s x → SheetRow s y → x ≡ y
  row_one = row_by_one (λ o p. sheet_one s)

  pub says_one : (call : Outcome → Reply) {x y : List ℕ} → SheetSays s call x → SheetSays s call y → x ≡ y
  says_one = says_by_one (λ o p. sheet_one s)

  pub lends_one :
      (call : Outcome → Reply) (result : Outcome → List ℕ) (before : List ℕ) {r t x y : List ℕ} →
      SheetLends s call result r before x → SheetLends s call result t before y → (r ≡ t) × (x ≡ y)
  lends_one = lends_by_one (λ o p. sheet_one s)

-- The same of an unpacked form.
module _ (l : List ℕ) where
  pub list_verdict_one : {v w : Verdict} → ListVerdict l v → ListVerdict l w → v ≡ w
  list_verdict_one = verdict_by_one (λ o p. lines_one l)

  pub list_calls_one : {A : Type 0} (call : Outcome → A) {a b : A} → ListTold l call a → ListTold l call b → a ≡ b
  list_calls_one = told_one (λ o p. lines_one l)

  pub list_fills_one :
      (call : Outcome → Reply) (result : Outcome → List ℕ) (before : List ℕ) {w v : Reply} {x y : List ℕ} →
      ListFills l call result w before x → ListFills l call result v before y → (w ≡ v) × (x ≡ y)
  list_fills_one = fill_one (λ o p. lines_one l)

  pub list_row_one : {x y : List ℕ} → ListRow l x → ListRow l y → x ≡ y
  list_row_one = row_by_one (λ o p. lines_one l)

  pub list_says_one : (call : Outcome → Reply) {x y : List ℕ} → ListSays l call x → ListSays l call y → x ≡ y
  list_says_one = says_by_one (λ o p. lines_one l)

  pub list_lends_one :
      (call : Outcome → Reply) (result : Outcome → List ℕ) (before : List ℕ) {r t x y : List ℕ} →
      ListLends l call result r before x → ListLends l call result t before y → (r ≡ t) × (x ≡ y)
  list_lends_one = lends_by_one (λ o p. lines_one l)
