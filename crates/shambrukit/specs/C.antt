-- The C entries: what they return, as numbers in the order of include/shambrukit.h, and what may be returned.
use Rattle.std.specs.Prelude.{◌≡◌, List, [], ◌∷◌, ◌++◌, ℕ, decimal}
use Rattle.sheet.specs.Answer.{Reply}
use Rattle.shambrukit.specs.declared.Verdict.{Verdict}
use Rattle.shambrukit.specs.declared.c.VerdictNumbers.{VerdictNumbers}
use Rattle.shambrukit.specs.declared.c.ResultNumbers.{ResultNumbers}
use Rattle.ready.specs.Lines.{Outcome, sheet_lines, list_lines}
use Rattle.shambrukit.specs.Verdict.{VerdictBy, row_of}
use Rattle.shambrukit.specs.Calls.{Told, Fills, reply_of}

abbrev pub verdict_numbers : VerdictNumbers → List ℕ
verdict_numbers r = r.answer ∷ r.place ∷ r.load ∷ r.frame ∷ r.length ∷ []

-- The five numbers as they are printed: in decimal, a space between two.
abbrev pub line_of : VerdictNumbers → List ℕ
line_of r =
    decimal r.answer ++ 32 ∷ decimal r.place ++ 32 ∷ decimal r.load ++ 32 ∷ decimal r.frame ++ 32 ∷ decimal r.length

abbrev pub result_numbers : ResultNumbers → List ℕ
result_numbers r = r.answer ∷ r.place ∷ r.value ∷ []

-- A verdict's row, where the lines 1 to 12 are `lines`.
abbrev pub RowBy : (Outcome → Type 0) → List ℕ → Type 0
RowBy lines row = (v : Verdict) × VerdictBy lines v × (row ≡ row_of v)

-- A question's answer.
abbrev pub SaysBy : (Outcome → Type 0) → (Outcome → Reply) → List ℕ → Type 0
SaysBy lines call row = (t : Reply) × Told lines call t × (row ≡ reply_of t)

-- The answer of a call that fills lent memory, and what the memory holds in the end.
abbrev pub LendsBy : (Outcome → Type 0) → (Outcome → Reply) → (Outcome → List ℕ) → List ℕ → List ℕ → List ℕ → Type 0
LendsBy lines call result row before after = (w : Reply) × Fills lines call result w before after × (row ≡ reply_of w)

-- The same of a byte string, and of an unpacked form.
abbrev pub SheetRow : List ℕ → List ℕ → Type 0
SheetRow s = RowBy (sheet_lines s)

abbrev pub ListRow : List ℕ → List ℕ → Type 0
ListRow l = RowBy (list_lines l)

abbrev pub SheetSays : List ℕ → (Outcome → Reply) → List ℕ → Type 0
SheetSays s = SaysBy (sheet_lines s)

abbrev pub ListSays : List ℕ → (Outcome → Reply) → List ℕ → Type 0
ListSays l = SaysBy (list_lines l)

abbrev pub SheetLends : List ℕ → (Outcome → Reply) → (Outcome → List ℕ) → List ℕ → List ℕ → List ℕ → Type 0
SheetLends s = LendsBy (sheet_lines s)

abbrev pub ListLends : List ℕ → (Outcome → Reply) → (Outcome → List ℕ) → List ℕ → List ℕ → List ℕ → Type 0
ListLends l = LendsBy (list_lines l)
