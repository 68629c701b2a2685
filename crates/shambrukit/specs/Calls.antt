-- 01, the other calls: what each answers once the lines 1 to 12 have come to an outcome. 15 comes first, for the graph and then
-- for the actor, then 13, then 14.
use Rattle.std.specs.Prelude.{◌≡◌, List, [], ◌∷◌, ℕ, ltb, leb, Ok, Err, length, get_or}
use Rattle.units.specs.Bounds.{max_ticks, max_outputs}
use Rattle.sdf.specs.Skip.{fewest}
use Rattle.edf.specs.Demand.{demand}
use Rattle.edf.specs.Tasks.{tasks, task_numbers}
use Rattle.trial.specs.Flat.{vector}
use Rattle.sheet.specs.Answer.{Reply, number_of, place_of, unless, filled}
use Rattle.sheet.specs.declared.Refusal.TheVariants.{Question, Room, Number}
use Rattle.ready.specs.Graphs.{Judged, nothing, work_of, works_of}
use Rattle.ready.specs.Lines.{Outcome, refused, ready, sheet_lines, list_lines}

-- What a call that goes by the outcome may say where the lines 1 to 12 are `lines`.
abbrev pub Told : {A : Type 0} → (Outcome → Type 0) → (Outcome → A) → A → Type 0
Told lines call a = (o : Outcome) × lines o × (a ≡ call o)

-- Of a byte string, and of an unpacked form.
abbrev pub SheetTold : {A : Type 0} → List ℕ → (Outcome → A) → A → Type 0
SheetTold s = Told (sheet_lines s)

abbrev pub ListTold : {A : Type 0} → List ℕ → (Outcome → A) → A → Type 0
ListTold l = Told (list_lines l)

-- The same for a call that fills lent memory: its answer and what the memory holds in the end go by one outcome.
abbrev pub Fills : (Outcome → Type 0) → (Outcome → Reply) → (Outcome → List ℕ) → Reply → List ℕ → List ℕ → Type 0
Fills lines call result w before after = (o : Outcome) × lines o × (w ≡ call o) × (after ≡ filled w (result o) before)

abbrev pub SheetFills : List ℕ → (Outcome → Reply) → (Outcome → List ℕ) → Reply → List ℕ → List ℕ → Type 0
SheetFills s = Fills (sheet_lines s)

abbrev pub ListFills : List ℕ → (Outcome → Reply) → (Outcome → List ℕ) → Reply → List ℕ → List ℕ → Type 0
ListFills l = Fills (list_lines l)

-- What a call answers, as numbers: answer, place, value or how many it wrote. A refusal returns 0 for the last.
abbrev pub reply_of : Reply → List ℕ
reply_of (Ok n) = 0 ∷ 0 ∷ n ∷ []
reply_of (Err r) = number_of r ∷ place_of r ∷ 0 ∷ []

-- 01, Demand at length t.
abbrev pub demand_told : Outcome → ℕ → Reply
demand_told (refused r) t = Err r
demand_told (ready js frame) t = unless (leb t max_ticks) Question (Ok (demand (works_of js) t))

-- 01, Fewest firings of an actor of a graph for K outputs.
abbrev pub fewest_told : Outcome → ℕ → ℕ → ℕ → Reply
fewest_told (refused r) graph actor K = Err r
fewest_told (ready js frame) graph actor K =
    let j = get_or js graph nothing in
    unless (ltb graph (length js)) Number
    (unless (ltb actor (length j.times)) Number
    (unless (leb K max_outputs) Question
    (Ok (fewest (vector j.repetition) (vector j.skips) K actor))))

-- A list of numbers of one graph, into `room` places: the answer, and the numbers.
abbrev pub listed : (Judged → List ℕ) → Outcome → ℕ → ℕ → Reply
listed numbers (refused r) graph room = Err r
listed numbers (ready js frame) graph room =
    let xs = numbers (get_or js graph nothing) in
    unless (ltb graph (length js)) Number (unless (leb (length xs) room) Room (Ok (length xs)))

abbrev pub numbers_of : (Judged → List ℕ) → Outcome → ℕ → List ℕ
numbers_of numbers (refused r) graph = []
numbers_of numbers (ready js frame) graph = numbers (get_or js graph nothing)

abbrev pub repetition_numbers : Judged → List ℕ
repetition_numbers j = j.repetition

abbrev pub skip_numbers : Judged → List ℕ
skip_numbers j = j.skips

abbrev pub task_list : Judged → List ℕ
task_list j = task_numbers (tasks (work_of j))

-- The whole sheet in its other form, n numbers or bytes, into `room` places.
abbrev pub whole : Outcome → ℕ → ℕ → Reply
whole (refused r) n room = Err r
whole (ready js frame) n room = unless (leb n room) Room (Ok n)
