-- A graph that is written out, of at most 3 actors and 2 channels: what the engine asks, number by number.
use Rattle.std.specs.Prelude.{ℕ, zero, suc, ◌<◌, ◌≤◌}
use Rattle.units.specs.Bounds.{max_rate, max_tokens}
use Rattle.sdf.specs.Graph.{Channel, Graph}

-- P holds at every number below n.
abbrev pub Each : (ℕ → Type 0) → ℕ → Type 0
Each P zero = Unit {0}
Each P (suc n) = P n × Each P n

pub record InRange (actors : ℕ) (e : Channel) : Type 0 where
  pub tail : e.tail < actors
  pub head : e.head < actors
  pub produce : (0 < e.produce) × (e.produce ≤ max_rate)
  pub consume : (0 < e.consume) × (e.consume ≤ max_rate)
  pub tokens : e.tokens ≤ max_tokens

pub record Small (g : Graph) : Type 0 where
  pub actors : g.actors ≤ 3
  pub channels : g.channels ≤ 2
  pub input : g.input < g.actors
  pub output : g.output < g.actors
  pub each : Each (λ c. InRange g.actors (g.channel c)) g.channels
