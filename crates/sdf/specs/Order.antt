-- 01, The graph: when an actor may fire, what a firing does, and which orders of firing are legal.
use Rattle.std.specs.Prelude.{◌≡◌, ◌≢◌, cond, List, [], ◌∷◌, ℕ, ◌+◌, ◌-◌, ◌<◌, ◌≤◌, eqb}
use Rattle.sdf.specs.Graph.{Channel, Graph}

-- How many tokens each channel holds, by the channel's number.
abbrev pub State : Type 0
State = ℕ → ℕ

abbrev pub initial : Graph → State
initial g = λ c. (g.channel c).tokens

-- 01, The graph: an actor may fire when each channel that leads into it holds at least its consume rate. Outside data for
-- the input is always there, so nothing more is asked of the input.
abbrev pub Enabled : Graph → State → ℕ → Type 0
Enabled g s v = (c : ℕ) → c < g.channels → (g.channel c).head ≡ v → (g.channel c).consume ≤ s c

-- What one firing of v takes off the channel, and what it puts there.
unfoldable pub removed : Channel → ℕ → ℕ
removed e v = cond (eqb e.head v) e.consume 0

unfoldable pub added : Channel → ℕ → ℕ
added e v = cond (eqb e.tail v) e.produce 0

-- 01, The graph: a firing first removes, then adds. On a channel from v to v it does both.
unfoldable pub fire : Graph → State → ℕ → State
fire g s v = λ c. s c - removed (g.channel c) v + added (g.channel c) v

-- The state that an order of firings leaves.
unfoldable pub after : Graph → State → List ℕ → State
after g s [] = s
after g s (v ∷ order) = after g (fire g s v) order

-- 01, The graph: an order is legal if each firing in it is of an actor that may fire in its turn.
unfoldable pub Legal : Graph → State → List ℕ → Type 0
Legal g s [] = Unit {0}
Legal g s (v ∷ order) = (v < g.actors) × Enabled g s v × Legal g (fire g s v) order

-- How often an order fires actor v.
unfoldable pub firings : ℕ → List ℕ → ℕ
firings v [] = 0
firings v (w ∷ order) = cond (eqb w v) 1 0 + firings v order

-- The order fires each actor v exactly n v times.
abbrev pub Fires : Graph → (ℕ → ℕ) → List ℕ → Type 0
Fires g n order = (v : ℕ) → v < g.actors → firings v order ≡ n v

-- 01, Deadlock: with q the repetition vector, a graph is free of deadlock if some legal order from the initial tokens fires
-- every actor exactly q times, and deadlocked if there is none.
abbrev pub Lives : Graph → (ℕ → ℕ) → Type 0
Lives g q = (order : List ℕ) × Legal g (initial g) order × Fires g q order

abbrev pub Deadlock : Graph → (ℕ → ℕ) → Type 0
Deadlock g q = ¬ Lives g q

-- 01, At rest: before anything arrives, the input alone may be enabled.
abbrev pub AtRest : Graph → Type 0
AtRest g = (v : ℕ) → v < g.actors → v ≢ g.input → ¬ Enabled g (initial g) v
