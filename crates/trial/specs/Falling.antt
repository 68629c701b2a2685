-- Links that lead to ever lower channels.
use Rattle.std.specs.Prelude.{List, ℕ, ◌+◌, ◌<◌, ◌≤◌, length, get_or}

-- From link `at` on every channel's own link leads to a lower one, and all these links have room.
pub record Falling (links : List ℕ) (actors at : ℕ) : Type 0 where
  pub room : actors + at ≤ length links
  pub falls : (c : ℕ) → c < at → get_or links (actors + c) 0 ≤ c
