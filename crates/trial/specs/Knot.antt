-- 01, Deadlock, before a trial run: who has to wait for whom, and on which actors and channels the answer hangs.
use Rattle.std.specs.Prelude.{◌≡◌, ◌≢◌, Bool, true, cond, List, ℕ, ◌*◌, ◌<◌, ◌≤◌, eqb, ltb}
use Rattle.std.specs.Int.{◌∣◌}
use Rattle.sets.specs.Sets.{has, Gathers}
use Rattle.sdf.specs.Graph.{Channel, Graph}
use Rattle.sdf.proofs.Stops.{Stopped}
use Rattle.trial.specs.Flat.{channel_at}

-- With so many tokens a channel lets its head fire all of q, whatever its tail does: what the head takes in all. From an actor to
-- itself, which gets back what it takes, what one firing takes.
unfoldable pub enough : Channel → (ℕ → ℕ) → ℕ
enough e q = cond (eqb e.tail e.head) e.consume (q e.tail * e.produce)

-- The channel's head has to wait for its tail.
abbrev pub waits : Graph → (ℕ → ℕ) → ℕ → Bool
waits g q c = ltb (g.channel c).tokens (enough (g.channel c) q)

-- Each actor's set: those that it has to wait for.
abbrev pub Awaits : Graph → (ℕ → ℕ) → (ℕ → ℕ) → Type 0
Awaits g q set = Gathers g.actors g.channels (λ c. (g.channel c).head) (λ c. (g.channel c).tail) (waits g q) set

-- Wherever a run toward q stops, who is not in the set has fired all of q.
abbrev pub Done : Graph → (ℕ → ℕ) → ℕ → Type 0
Done g q left = (n : ℕ → ℕ) → Stopped g q n → (v : ℕ) → v < g.actors → has left v ≡ 0 → n v ≡ q v

-- Wherever a run toward q stops: if those of the core have fired all of q, everybody has; and if one of the core has to wait for
-- somebody who is not, that one has fired all of q.
pub record Core (g : Graph) (q : ℕ → ℕ) (core : ℕ) : Type 0 where
  pub hinges : (n : ℕ → ℕ) → Stopped g q n → ((v : ℕ) → v < g.actors → has core v ≡ 1 → n v ≡ q v) → (v : ℕ) → v < g.actors → n v ≡ q v
  pub apart : (n : ℕ → ℕ) → Stopped g q n → (c : ℕ) → c < g.channels → waits g q c ≡ true → has core (g.channel c).head ≡ 1 → has core (g.channel c).tail ≡ 0 → n (g.channel c).tail ≡ q (g.channel c).tail

-- k is g with some of its channels only, all of them within the core; and with every one within it whose head has to wait.
pub record Kept (g k : Graph) (q : ℕ → ℕ) (core : ℕ) : Type 0 where
  pub actors : k.actors ≡ g.actors
  pub pick : ℕ → ℕ
  pub picked : (c : ℕ) → c < k.channels → (pick c < g.channels) × (k.channel c ≡ g.channel (pick c))
  pub tails : (c : ℕ) → c < k.channels → has core (k.channel c).tail ≡ 1
  pub heads : (c : ℕ) → c < k.channels → has core (k.channel c).head ≡ 1
  pub waiting : (c : ℕ) → c < g.channels → waits g q c ≡ true → has core (g.channel c).tail ≡ 1 → has core (g.channel c).head ≡ 1 → (d : ℕ) × (d < k.channels) × (k.channel d ≡ g.channel c)

-- The counts of the core are so many times its shares, and the others' share is 0.
pub record Shares (actors : ℕ) (q : ℕ → ℕ) (core : ℕ) (share : ℕ → ℕ) : Type 0 where
  pub times : ℕ
  pub positive : 0 < times
  pub inside : (v : ℕ) → v < actors → has core v ≡ 1 → q v ≡ times * share v
  pub outside : (v : ℕ) → v < actors → has core v ≡ 0 → share v ≡ 0

-- v is taken out of the set only if nobody that it awaits is in it.
pub record Released (left awaits v new : ℕ) : Type 0 where
  pub fewer : new ≤ left
  pub others : (w : ℕ) → w ≢ v → has new w ≡ has left w
  pub stays : has new v ≡ 1 → has left v ≡ 1
  pub free : has left v ≡ 1 → has new v ≡ 0 → (w : ℕ) → has awaits w ≡ 1 → has left w ≡ 0

-- Those of the set that somebody of the set awaits.
pub record Wanted (awaits : ℕ → ℕ) (left new : ℕ) : Type 0 where
  pub fewer : new ≤ left
  pub stays : (v : ℕ) → has new v ≡ 1 → has left v ≡ 1
  pub wanted : (v w : ℕ) → has left v ≡ 1 → has left w ≡ 1 → has (awaits v) w ≡ 1 → has new w ≡ 1

-- Channel c of one flat list stands as channel d of another, which is otherwise as it was.
pub record Copied (flat : List ℕ) (c d : ℕ) (before after : List ℕ) : Type 0 where
  pub there : channel_at after d ≡ channel_at flat c
  pub others : (i : ℕ) → i ≢ d → channel_at after i ≡ channel_at before i

-- d divides the number of every actor in the set, and is not 0.
pub record Unit (actors : ℕ) (q : ℕ → ℕ) (set d : ℕ) : Type 0 where
  pub divides : (v : ℕ) → v < actors → has set v ≡ 1 → d ∣ q v
  pub positive : 0 < d
