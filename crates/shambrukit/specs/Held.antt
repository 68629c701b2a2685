-- What the calls may say once the judged graphs stand in their rows.
use Rattle.std.specs.Prelude.{◌≡◌, List, ℕ, ◌≤◌, Result, Ok, Err, length, get_or, map}
use Rattle.units.specs.Bounds.{max_ticks}
use Rattle.edf.specs.Frame.{Frame}
use Rattle.demand.specs.declared.rows.Rows.{Rows}
use Rattle.demand.specs.declared.rows.Head.{Head}
use Rattle.demand.specs.declared.rows.Actor.{Actor}
use Rattle.sheet.specs.Answer.{Reply, filled}
use Rattle.sheet.specs.declared.Refusal.{Refusal}
use Rattle.shambrukit.specs.declared.Verdict.{Verdict}
use Rattle.ready.specs.declared.Ready.{Ready}
use Rattle.ready.specs.Graphs.{Judged, nothing, works_of}
use Rattle.ready.specs.Lines.{Outcome, refused, ready}
use Rattle.ready.specs.Rows as stand
use Rattle.shambrukit.specs.Verdict.{Judgement}
use Rattle.shambrukit.specs.Calls.{listed, numbers_of}

-- F is the frame of the judged graphs, and answer 12 lets it pass.
abbrev pub Framed : List Judged → ℕ → Type 0
Framed js F = Frame (length js) (λ i. (get_or js i nothing).period) F × (F ≤ max_ticks)

-- A refusal that the lines 1 to 12 allow of the form, or the form as it is.
abbrev pub CheckedBy : {F : Type 0} → (F → Outcome → Type 0) → F → Result F Refusal → Type 0
CheckedBy lines form (Err r) = lines form (refused r)
CheckedBy lines form (Ok f) = f ≡ form

-- A refusal that the lines 1 to 12 allow, or the graphs that they find ready, in their places, and the frame.
abbrev pub PreparedBy : (Outcome → Type 0) → Result Ready Refusal → List Head → List Actor → Type 0
PreparedBy lines (Err r) heads actors = lines (refused r)
PreparedBy lines (Ok p) heads actors =
    (js : List Judged) × lines (ready js p.frame.n) × (length js ≡ p.graphs) × stand.Rows js heads actors × Framed js p.frame.n

-- The judged graphs js, and no others, stand in the rows.
pub record Stand (js : List Judged) (rows : Rows) : Type 0 where
  pub count : length js ≡ length rows.heads.now
  pub room : rows.room ≡ 32
  pub graphs : stand.Rows js rows.heads.now rows.actors.now

-- Some judged graphs do, and F is their frame.
abbrev pub HeldFramed : Rows → ℕ → Type 0
HeldFramed rows F = (js : List Judged) × Stand js rows × Framed js F

-- The verdict is right for the graphs that stand there.
abbrev pub HeldVerdict : Rows → ℕ → Verdict → Type 0
HeldVerdict rows F v = (js : List Judged) → Stand js rows → Judgement (works_of js) F v

-- The answer is the call's for the graphs that stand there.
abbrev pub HeldTold : {A : Type 0} → Rows → (Outcome → A) → A → Type 0
HeldTold rows call a = (js : List Judged) (F : ℕ) → Stand js rows → a ≡ call (ready js F)

-- The same of a call that lists numbers of one graph.
abbrev pub HeldListed : Rows → (Judged → List ℕ) → ℕ → Reply → List ℕ → List ℕ → Type 0
HeldListed rows numbers graph w before after =
    (js : List Judged) (F : ℕ) → Stand js rows →
    (w ≡ listed numbers (ready js F) graph (length before)) × (after ≡ filled w (numbers_of numbers (ready js F) graph) before)

-- The judged numbers of a graph stand in that field of its actors.
abbrev pub Column : (Actor → ℕ) → (Judged → List ℕ) → Type 0
Column field numbers =
    (j : Judged) (heads : List Head) (actors : List Actor) (i : ℕ) → stand.Row j heads actors i →
    map field (stand.row_at actors i (length j.times)) ≡ numbers j
