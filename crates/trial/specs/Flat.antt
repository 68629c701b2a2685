-- A graph as the engine is handed it: counts, input and output, and a flat list of channels, five numbers each in document
-- 01's order: tail, head, produce, consume, tokens.
use Rattle.std.specs.Prelude.{List, ℕ, ◌+◌, ◌*◌, ◌/◌, ◌<◌, ◌≤◌, length, get_or}
use Rattle.units.specs.Bounds.{engine_actors, engine_channels, max_rate, max_tokens}
use Rattle.sdf.specs.Graph.{Channel, Graph, Sound}
pub use Rattle.sets.specs.Vector.{vector}

abbrev pub channel_at : List ℕ → ℕ → Channel
channel_at flat c = record {
  tail = get_or flat (5 * c) 0;
  head = get_or flat (5 * c + 1) 0;
  produce = get_or flat (5 * c + 2) 0;
  consume = get_or flat (5 * c + 3) 0;
  tokens = get_or flat (5 * c + 4) 0;
}

abbrev pub graph_of : ℕ → ℕ → ℕ → List ℕ → Graph
graph_of actors input output flat = record {
  actors = actors;
  input = input;
  output = output;
  channels = length flat / 5;
  channel = channel_at flat;
}

-- What every function of the engine asks of the graph: whole channels, sound (01, answer 6) and within the engine's bounds.
pub record Drawn (g : Graph) : Type 0 where
  pub sound : Sound g
  pub actors : g.actors ≤ engine_actors
  pub channels : g.channels ≤ engine_channels
  pub produce : (c : ℕ) → c < g.channels → (g.channel c).produce ≤ max_rate
  pub consume : (c : ℕ) → c < g.channels → (g.channel c).consume ≤ max_rate
  pub tokens : (c : ℕ) → c < g.channels → (g.channel c).tokens ≤ max_tokens
