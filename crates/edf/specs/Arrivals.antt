-- 01, Arrivals and Blocks due: what can arrive and fall due inside an interval.
use Rattle.std.specs.Prelude.{cond, List, [], ◌∷◌, ℕ, ◌+◌, ◌-◌, ◌/◌, ◌≤◌, ltb}

-- 01, Blocks due in an interval of length t: none if t is below the deadline, else (t − D) / T rounded down, plus 1.
unfoldable pub due : ℕ → ℕ → ℕ → ℕ
due T D t = cond (ltb t D) 0 ((t - D) / T + 1)

-- 01, Arrivals: the times, in their order, are at least a period T apart.
unfoldable pub Apart : ℕ → List ℕ → Type 0
Apart T [] = Unit {0}
Apart T (x ∷ []) = Unit {0}
Apart T (x ∷ y ∷ later) = (x + T ≤ y) × Apart T (y ∷ later)

-- 01, Arrivals: each block arrives in the interval of length t from `start`, and so does the time D after it at which its
-- output is due.
unfoldable pub Inside : ℕ → ℕ → ℕ → List ℕ → Type 0
Inside D start t [] = Unit {0}
Inside D start t (x ∷ later) = (start ≤ x) × (x + D ≤ start + t) × Inside D start t later
