-- A channel of the flat list, as the code holds it.
use Rattle.std.specs.Prelude.{◌≡◌, ℕ, ◌<◌, ◌≤◌}
use Rattle.units.specs.Bounds.{max_rate}
use Rattle.sdf.specs.Graph.{Channel, Graph}
use Rattle.trial.specs.declared.channel.Channel as code

abbrev pub seen : code.Channel → Channel
seen r = record {
  tail = r.tail;
  head = r.head;
  produce = r.produce.n;
  consume = r.consume.n;
  tokens = r.tokens.n;
}

-- It is the graph's channel c, its ends are actors and its rates within 1 and the bound.
pub record Read (g : Graph) (c : ℕ) (e : Channel) : Type 0 where
  pub is : g.channel c ≡ e
  pub tail : e.tail < g.actors
  pub head : e.head < g.actors
  pub produce : (0 < e.produce) × (e.produce ≤ max_rate)
  pub consume : (0 < e.consume) × (e.consume ≤ max_rate)
