-- 01, Bounds: the frame, the least common multiple of all periods.
use Rattle.std.specs.Prelude.{ℕ, ◌<◌, ◌≤◌}
use Rattle.std.specs.Int.{◌∣◌}

-- m is positive and a multiple of each of the first n periods.
pub record CommonMultiple (n : ℕ) (period : ℕ → ℕ) (m : ℕ) : Type 0 where
  pub positive : 0 < m
  pub multiple : (i : ℕ) → i < n → period i ∣ m

-- 01, Bounds: the frame is the smallest of them.
pub record Frame (n : ℕ) (period : ℕ → ℕ) (frame : ℕ) : Type 0 where
  pub common : CommonMultiple n period frame
  pub least : (m : ℕ) → CommonMultiple n period m → frame ≤ m
