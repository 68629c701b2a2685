-- The channels of a graph in lists, one for each actor at one of their ends: links in one slice. A link is 0 where a list ends,
-- and otherwise one more than the channel it leads to.
use Rattle.std.specs.Prelude.{◌≡◌, ◌≢◌, List, ℕ, ◌+◌, ◌<◌, ◌≤◌, length, get_or}
use Rattle.trial.specs.Flat.{channel_at}
use Rattle.trial.specs.declared.links.End.{End}
use Rattle.trial.specs.declared.links.End.TheVariants.{Tail, Head}

abbrev pub tails : List ℕ → ℕ → ℕ
tails flat c = (channel_at flat c).tail

abbrev pub heads : List ℕ → ℕ → ℕ
heads flat c = (channel_at flat c).head

-- The actor at one end of each channel.
abbrev pub end_of : End → List ℕ → ℕ → ℕ
end_of Tail = tails
end_of Head = heads

-- Link `at` leads to the last of the channels below `limit` that end at v.
pub record Chain (end : ℕ → ℕ) (v limit at : ℕ) : Type 0 where
  pub within : at ≤ limit
  pub ends : (c : ℕ) → at ≡ c + 1 → end c ≡ v
  pub none : (c : ℕ) → at ≤ c → c < limit → end c ≢ v

-- The lists of the first n channels: place v leads to actor v's last channel, place actors + c to the one before channel c.
pub record Linked (end : ℕ → ℕ) (actors n : ℕ) (links : List ℕ) : Type 0 where
  pub room : actors + n ≤ length links
  pub first : (v : ℕ) → v < actors → Chain end v n (get_or links v 0)
  pub next : (c : ℕ) → c < n → Chain end (end c) c (get_or links (actors + c) 0)
