-- 01, Skip numbers and Fewest firings.
use Rattle.std.specs.Prelude.{◌≡◌, ℕ, ◌+◌, ◌*◌, ◌-◌, ◌/◌, ◌<◌, ◌≤◌}
use Rattle.sdf.specs.Graph.{Channel, Graph}
use Rattle.sdf.specs.Balance.{AtMost}

-- 01, Skip numbers: what a channel allows its tail, given its head's skip: (tokens + head's skip × consume) / produce,
-- rounded down.
unfoldable pub allowed : Channel → ℕ → ℕ
allowed e skip = (e.tokens + skip * e.consume) / e.produce

-- 01, Skip numbers: 0 at the output, and on every channel the tail's skip is at most what the channel allows.
pub record Skippable (g : Graph) (s : ℕ → ℕ) : Type 0 where
  pub output : s g.output ≡ 0
  pub channel : (c : ℕ) → c < g.channels → s (g.channel c).tail ≤ allowed (g.channel c) (s (g.channel c).head)

-- 01, Skip numbers: the greatest such vector.
pub record Skips (g : Graph) (s : ℕ → ℕ) : Type 0 where
  pub skippable : Skippable g s
  pub greatest : (x : ℕ → ℕ) → Skippable g x → AtMost g x s

-- 01, Fewest firings of actor v for K outputs: K × repetition − skip, or 0 where that is negative (`-` stops at 0).
unfoldable pub fewest : (ℕ → ℕ) → (ℕ → ℕ) → ℕ → ℕ → ℕ
fewest q s K v = K * q v - s v
