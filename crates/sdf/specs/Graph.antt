-- 01, The graph: actors, channels, and the paths that channels make.
use Rattle.std.specs.Prelude.{◌≡◌, List, [], ◌∷◌, ℕ, ◌<◌}

-- 01, The graph: a channel carries tokens from its tail to its head. A firing of the tail adds `produce` of them, one of
-- the head removes `consume`, and `tokens` are there before anything fires.
pub record Channel : Type 0 where
  pub tail : ℕ
  pub head : ℕ
  pub produce : ℕ
  pub consume : ℕ
  pub tokens : ℕ

-- 01, The graph: actors and channels are numbered from 0; `channel c` counts for c below `channels`. Two channels may join
-- the same actors, a channel may lead back to its own tail, and input and output may be one actor.
pub record Graph : Type 0 where
  pub actors : ℕ
  pub input : ℕ
  pub output : ℕ
  pub channels : ℕ
  pub channel : ℕ → Channel

-- 01, answer 6: input, output and both ends of every channel are actors of the graph, and no rate is 0.
pub record Sound (g : Graph) : Type 0 where
  pub input : g.input < g.actors
  pub output : g.output < g.actors
  pub tail : (c : ℕ) → c < g.channels → (g.channel c).tail < g.actors
  pub head : (c : ℕ) → c < g.channels → (g.channel c).head < g.actors
  pub produce : (c : ℕ) → c < g.channels → 0 < (g.channel c).produce
  pub consume : (c : ℕ) → c < g.channels → 0 < (g.channel c).consume

-- 01, answer 7: the channels named, one after the other, lead from actor v to actor w; no channel at all leads from v to v.
unfoldable pub Along : Graph → ℕ → List ℕ → ℕ → Type 0
Along g v [] w = v ≡ w
Along g v (c ∷ path) w = (c < g.channels) × ((g.channel c).tail ≡ v) × Along g (g.channel c).head path w

abbrev pub Reaches : Graph → ℕ → ℕ → Type 0
Reaches g v w = (path : List ℕ) × Along g v path w

-- 01, answer 7: every actor is reached from the input and reaches the output.
abbrev pub Reached : Graph → Type 0
Reached g = (v : ℕ) → v < g.actors → Reaches g g.input v × Reaches g v g.output
