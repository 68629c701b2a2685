-- 01, Deadlock, for the engine: how often an actor can fire in one visit, what a visit changes, and how far a trial run has come.
use Rattle.std.specs.Prelude.{◌≡◌, ◌≢◌, List, ℕ, ◌+◌, ◌-◌, ◌*◌, ◌^◌, ◌<◌, ◌≤◌, length, get_or}
use Rattle.units.specs.Bounds.{max_rate, max_repetition, max_tokens}
use Rattle.sdf.specs.Graph as sdf
use Rattle.sdf.specs.Graph.{Graph}
use Rattle.sdf.specs.Order.{State, initial, Enabled, removed, added, after, Legal, firings}
use Rattle.sdf.specs.Balance.{AtMost}
use Rattle.sdf.specs.Sum.{sum_to}
use Rattle.trial.specs.Flat.{vector}

-- The greatest number up to `most` of which P holds.
pub record Greatest (P : ℕ → Type 0) (most k : ℕ) : Type 0 where
  pub within : k ≤ most
  pub holds : P k
  pub greatest : (j : ℕ) → j ≤ most → P j → j ≤ k

-- With `held` tokens on it, a channel lets actor v fire k times in a row: into v from another actor it holds k times the
-- consume rate; from v to v, where each firing puts back what it takes, once the consume rate.
pub record Lets (e : sdf.Channel) (held v k : ℕ) : Type 0 where
  pub others : e.head ≡ v → e.tail ≢ v → k * e.consume ≤ held
  pub own : e.head ≡ v → e.tail ≡ v → 0 < k → e.consume ≤ held

-- Each of the first n channels lets v fire k times in a row.
abbrev pub Allows : (ℕ → sdf.Channel) → ℕ → State → ℕ → ℕ → Type 0
Allows channel n s v k = (c : ℕ) → c < n → Lets (channel c) (s c) v k

-- On a balanced graph a channel that leads back to its tail takes off what it puts on.
abbrev pub Restores : sdf.Channel → Type 0
Restores e = e.tail ≡ e.head → e.produce ≡ e.consume

-- What a run asks of the graph and of the counts that it goes toward.
pub record Runnable (g : Graph) (q : List ℕ) : Type 0 where
  pub restores : (c : ℕ) → c < g.channels → Restores (g.channel c)
  pub bound : AtMost g (vector q) (λ _. max_repetition)

-- What a channel holds before and after k firings of v.
pub record Moved (e : sdf.Channel) (v k held there : ℕ) : Type 0 where
  pub tokens : there + k * removed e v ≡ held + k * added e v

-- An actor that is not ready now was not ready before, and if it is another than v to which the channel leads, the channel holds
-- less than it takes.
pub record Woken (e : sdf.Channel) (v held : ℕ) (ready ready' : List ℕ) : Type 0 where
  pub kept : (w : ℕ) → get_or ready' w 0 ≡ 0 → get_or ready w 0 ≡ 0
  pub woken : (w : ℕ) → get_or ready' w 0 ≡ 0 → w ≢ v → e.head ≡ w → held < e.consume

-- What k firings of v ask of the channels and of the lists that they change.
pub record Fireable (channel : ℕ → sdf.Channel) (n v k : ℕ) (tokens ready : List ℕ) : Type 0 where
  pub allows : Allows channel n (vector tokens) v k
  pub restores : (c : ℕ) → c < n → Restores (channel c)
  pub fits : (c : ℕ) → c < n → get_or tokens c 0 + k * (channel c).produce < 2 ^ 64
  pub tokens_room : n ≤ length tokens
  pub ready_room : (c : ℕ) → c < n → (channel c).head < length ready

-- What a channel gets from k firings of v. Another actor to which it leads from v is ready, or the channel holds less than it takes.
pub record PutOn (e : sdf.Channel) (v k : ℕ) (ready : List ℕ) (held there : ℕ) : Type 0 where
  pub more : there ≡ held + k * added e v
  pub woken : (w : ℕ) → get_or ready w 0 ≡ 0 → w ≢ v → e.tail ≡ v → e.head ≡ w → there < e.consume

-- What the first n channels get.
pub record Put (channel : ℕ → sdf.Channel) (n v k : ℕ) (tokens ready tokens' ready' : List ℕ) : Type 0 where
  pub on : (c : ℕ) → c < n → PutOn (channel c) v k ready' (get_or tokens c 0) (get_or tokens' c 0)
  pub kept : (w : ℕ) → get_or ready' w 0 ≡ 0 → get_or ready w 0 ≡ 0

-- What a channel loses by k firings of v.
pub record TakenOff (e : sdf.Channel) (v k held there : ℕ) : Type 0 where
  pub less : there + k * removed e v ≡ held

-- What k firings of v change on the first n channels. Another actor to which one of them leads from v is ready, or cannot fire.
pub record Fired (channel : ℕ → sdf.Channel) (n v k : ℕ) (tokens ready tokens' ready' : List ℕ) : Type 0 where
  pub moved : (c : ℕ) → c < n → Moved (channel c) v k (get_or tokens c 0) (get_or tokens' c 0)
  pub kept : (w : ℕ) → get_or ready' w 0 ≡ 0 → get_or ready w 0 ≡ 0
  pub woken : (w : ℕ) → get_or ready' w 0 ≡ 0 → w ≢ v → (c : ℕ) → c < n → (channel c).tail ≡ v → (channel c).head ≡ w → get_or tokens' c 0 < (channel c).consume

-- A trial run toward the counts q: some legal order led here. `left` holds what each actor is short of its count, `rest` is
-- the sum of that, and an actor that is short and not ready is not enabled.
pub record Run (g : Graph) (q : ℕ → ℕ) (tokens left ready : List ℕ) (rest : ℕ) : Type 0 where
  pub order : List ℕ
  pub legal : Legal g (initial g) order
  pub short : (v : ℕ) → v < g.actors → firings v order + get_or left v 0 ≡ q v
  pub held : (c : ℕ) → c < g.channels → after g (initial g) order c ≡ get_or tokens c 0
  pub sum : rest ≡ sum_to (vector left) g.actors
  pub waits : (v : ℕ) → v < g.actors → get_or ready v 0 ≡ 0 → 0 < get_or left v 0 → ¬ Enabled g (vector tokens) v

-- What a visit asks: bounds that hold all through a run, and room.
pub record Visitable (g : Graph) (tokens left ready : List ℕ) : Type 0 where
  pub restores : (c : ℕ) → c < g.channels → Restores (g.channel c)
  pub held : (c : ℕ) → c < g.channels → get_or tokens c 0 ≤ max_tokens + max_repetition * max_rate
  pub short : (v : ℕ) → v < g.actors → get_or left v 0 ≤ max_repetition
  pub tokens_room : g.channels ≤ length tokens
  pub left_room : g.actors ≤ length left
  pub ready_room : g.actors ≤ length ready

-- A visit to v, or one to v and then to others, in which k firings are made, carries every run on by so many firings. Where
-- nothing fires, v is not ready, and nobody has become ready.
pub record Visited (g : Graph) (v k : ℕ) (tokens left ready tokens' left' ready' : List ℕ) : Type 0 where
  pub run : (q : ℕ → ℕ) (rest : ℕ) → Run g q tokens left ready rest → Run g q tokens' left' ready' (rest - k)
  pub fewer : sum_to (vector left') g.actors + k ≡ sum_to (vector left) g.actors
  pub still : k ≡ 0 → (w : ℕ) → (w ≢ v → get_or ready w 0 ≡ 0) → get_or ready' w 0 ≡ 0

-- Some run has led here, and the lists have room.
pub record Underway (g : Graph) (tokens left ready : List ℕ) : Type 0 where
  pub q : List ℕ
  pub runnable : Runnable g q
  pub rest : ℕ
  pub run : Run g (vector q) tokens left ready rest
  pub tokens_room : g.channels ≤ length tokens
  pub left_room : g.actors ≤ length left
  pub ready_room : g.actors ≤ length ready

-- The start of a run: all of q is still to come, and every actor is ready.
pub record Started (actors : ℕ) (q left ready : List ℕ) (rest : ℕ) : Type 0 where
  pub short : (v : ℕ) → v < actors → get_or left v 0 ≡ get_or q v 0
  pub woken : (v : ℕ) → v < actors → get_or ready v 0 ≡ 1
  pub sum : rest ≡ sum_to (vector q) actors
