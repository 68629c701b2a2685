-- 01, The answer table: the verdict, and the five numbers that it is handed out as.
use Rattle.std.specs.Prelude.{◌≡◌, List, [], ◌∷◌, ℕ, ◌<◌, ◌≤◌}
use Rattle.edf.specs.Demand.{Works, load, LateLength, Within}
use Rattle.sheet.specs.Answer.{number_of, place_of}
use Rattle.shambrukit.specs.declared.Verdict.{Verdict}
use Rattle.shambrukit.specs.declared.Verdict.TheVariants.{Accepted, Overload, Late, Refused}
use Rattle.shambrukit.specs.declared.Load.{Load}
use Rattle.ready.specs.Graphs.{works_of}
use Rattle.ready.specs.Lines.{Outcome, refused, ready, sheet_lines, list_lines}

abbrev pub load_of : Works → ℕ → Load
load_of ws frame = record { load = record { n = load ws frame }; frame = record { n = frame } }

-- Answers 20, 21 and 0, in this order.
pub data Judgement (ws : Works) (frame : ℕ) (v : Verdict) : Type 0 where
  overload : frame < load ws frame → v ≡ Overload (load_of ws frame) → Judgement ws frame v
  late : load ws frame ≤ frame → (t : ℕ) → LateLength ws t → v ≡ Late (load_of ws frame) (record { n = t }) → Judgement ws frame v
  accepted : load ws frame ≤ frame → Within ws → v ≡ Accepted (load_of ws frame) → Judgement ws frame v

abbrev pub VerdictOf : Outcome → Verdict → Type 0
VerdictOf (refused r) v = v ≡ Refused r
VerdictOf (ready js frame) v = Judgement (works_of js) frame v

-- What the judge may say where the lines 1 to 12 are `lines`.
unfoldable pub VerdictBy : (Outcome → Type 0) → Verdict → Type 0
VerdictBy lines v = (o : Outcome) × lines o × VerdictOf o v

-- Of a byte string, and of an unpacked form.
abbrev pub SheetVerdict : List ℕ → Verdict → Type 0
SheetVerdict s = VerdictBy (sheet_lines s)

abbrev pub ListVerdict : List ℕ → Verdict → Type 0
ListVerdict l = VerdictBy (list_lines l)

-- Answer, place, frame load, frame, length. A refusal returns load, frame and length 0; only 21 has a length.
abbrev pub row_of : Verdict → List ℕ
row_of (Accepted w) = 0 ∷ 0 ∷ w.load.n ∷ w.frame.n ∷ 0 ∷ []
row_of (Overload w) = 20 ∷ 0 ∷ w.load.n ∷ w.frame.n ∷ 0 ∷ []
row_of (Late w t) = 21 ∷ 0 ∷ w.load.n ∷ w.frame.n ∷ t.n ∷ []
row_of (Refused r) = number_of r ∷ place_of r ∷ 0 ∷ 0 ∷ 0 ∷ []
