-- Sets of actors: each the bits of one word.
use Rattle.std.specs.Prelude.{◌≡◌, ◌≢◌, Bool, true, List, [], ◌∷◌, ℕ, ◌+◌, ◌*◌, ◌/◌, ◌%◌, ◌^◌, ◌<◌, max, get_or}

-- 1 where v is in the set, and 0 where it is not.
unfoldable pub has : ℕ → ℕ → ℕ
has set v = set / 2 ^ v % 2

-- Every actor below n is in the set.
abbrev pub Covers : ℕ → ℕ → Type 0
Covers set n = (v : ℕ) → v < n → has set v ≡ 1

-- Every actor in the set is below n.
abbrev pub Below : ℕ → ℕ → Type 0
Below set n = (v : ℕ) → has set v ≡ 1 → v < n

-- At v there stands `bit`, and elsewhere what stood there.
pub record Put (set v bit new : ℕ) : Type 0 where
  pub here : has new v ≡ bit
  pub there : (w : ℕ) → w ≢ v → has new w ≡ has set w
  pub size : new + has set v * 2 ^ v ≡ set + bit * 2 ^ v

-- The word at one place has v too where `bit` is 1; the other places are as they were.
pub record Marked (at v bit : ℕ) (before after : List ℕ) : Type 0 where
  pub kept : (i : ℕ) → i ≢ at → get_or after i 0 ≡ get_or before i 0
  pub put : Put (get_or before at 0) v (max (has (get_or before at 0) v) bit) (get_or after at 0)

-- What is gathered from the first n of a list: for each i that is picked, the set of actor `at i` has `of i`; and the sets of the
-- actors below `room` have nobody else.
pub record Gathers (room n : ℕ) (at of : ℕ → ℕ) (picked : ℕ → Bool) (set : ℕ → ℕ) : Type 0 where
  pub holds : (i : ℕ) → i < n → picked i ≡ true → has (set (at i)) (of i) ≡ 1
  pub comes : (v w : ℕ) → v < room → has (set v) w ≡ 1 → (i : ℕ) × (i < n) × (at i ≡ v) × (of i ≡ w) × (picked i ≡ true)

-- The actors named lead from v to w, each in the set of the one before.
unfoldable pub Trail : (ℕ → ℕ) → ℕ → List ℕ → ℕ → Type 0
Trail set v [] w = v ≡ w
Trail set v (u ∷ trail) w = (has (set v) u ≡ 1) × Trail set u trail w

-- w is met from the actors of `start`.
abbrev pub Met : (ℕ → ℕ) → ℕ → ℕ → Type 0
Met set start w = (v : ℕ) × (has start v ≡ 1) × (trail : List ℕ) × Trail set v trail w

-- The set of all that are met from the actors of `start`.
pub record Spread (set : ℕ → ℕ) (start met : ℕ) : Type 0 where
  pub starts : (v : ℕ) → has start v ≡ 1 → has met v ≡ 1
  pub closed : (v w : ℕ) → has met v ≡ 1 → has (set v) w ≡ 1 → has met w ≡ 1
  pub sound : (w : ℕ) → has met w ≡ 1 → Met set start w

-- Whatever is told of one of the first n is its set.
abbrev pub Tells : (told : ℕ → ℕ → Type 0) → ℕ → (ℕ → ℕ) → Type 0
Tells told n sets = (v set : ℕ) → v < n → told v set → set ≡ sets v
