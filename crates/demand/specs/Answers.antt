-- What the engine of demand answers.
use Rattle.std.specs.Prelude.{ℕ, ◌+◌, ◌<◌, ◌≤◌, Option, Some, None}
use Rattle.units.specs.Bounds.{max_ticks}
use Rattle.units.specs.declared.Ticks.{Ticks}
use Rattle.edf.specs.Frame.{Frame}
use Rattle.edf.proofs.Frame.{LeastMultiple, NoneBelow}

-- The least common multiple of a and b, or that it is above the bound of a frame.
abbrev pub MultipleAnswer : ℕ → ℕ → Option Ticks → Type 0
MultipleAnswer a b (Some m) = LeastMultiple a b m.n × (m.n ≤ max_ticks)
MultipleAnswer a b None = NoneBelow a b (max_ticks + 1)

-- 01, answer 12: the frame of the first n periods, or that it is above its bound.
abbrev pub FrameAnswer : ℕ → (ℕ → ℕ) → Option Ticks → Type 0
FrameAnswer n period (Some f) = Frame n period f.n × (f.n ≤ max_ticks)
FrameAnswer n period None = (F : ℕ) → Frame n period F → max_ticks < F
