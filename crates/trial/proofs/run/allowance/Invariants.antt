-- `allowance` returns the greatest number of firings that all channels let the actor make in a row. The invariant: what those that
-- the walk has passed let it make.
use mathlib.Core.Path.{◌≡◌}
use Prim.Native.Nat.{◌/◌}
use lib.ListN.{length}
use Rattle.trial.specs.Flat.{channel_at, vector}
use Rattle.trial.proofs.Firing.{Allowing}
use Rattle.trial.proofs.run.allowance.Given as goal

abbrev pub invariant-loop-c : goal.invariant-loop-c
invariant-loop-c l = (l.c-iterator.links.now ≡ l.lists.into.now) × (l.c-iterator.actors ≡ l.lists.net.now.actors)
    × Allowing (channel_at l.lists.net.now.channels.now) (length l.lists.net.now.channels.now / 5) (vector l.tokens) l.v l.initial.k.n l.c-iterator.at l.k.n
