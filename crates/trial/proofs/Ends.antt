-- The two ends of a channel.
use mathlib.Core.Path.{◌≡◌}
use Prim.Native.Nat.{ℕ, ◌<◌}
use Rattle.sdf.specs.Graph.{Graph, Sound}
use Rattle.sdf.proofs.Reach.{reversed, reversed_sound}

-- Channel c leads from `near` to `far`, and both are below n.
pub record Ends (g : Graph) (n c near far : ℕ) : Type 0 where
  pub sound : Sound g
  pub channel : c < g.channels
  pub tail : (g.channel c).tail ≡ near
  pub head : (g.channel c).head ≡ far
  pub near_below : near < n
  pub far_below : far < n

-- A channel of a sound graph leads from one actor to another.
pub channel_ends : {g : Graph} {c tail head : ℕ} → Sound g → c < g.channels → (g.channel c).tail ≡ tail → (g.channel c).head ≡ head → Ends g g.actors c tail head
channel_ends {c = c} s l t h =
    record { sound = s; channel = l; tail = t; head = h; near_below = rw t at (s.tail c l); far_below = rw h at (s.head c l) }

-- In the reversed graph they change places.
pub reversed_ends : {g : Graph} {n c near far : ℕ} → Ends g n c near far → Ends (reversed g) n c far near
unfolding reversed
reversed_ends {g} e =
    record { sound = reversed_sound g e.sound; channel = e.channel; tail = e.head; head = e.tail; near_below = e.far_below; far_below = e.near_below }
