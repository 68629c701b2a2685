-- `take` takes off what the firings consume. The invariant: the channels that the walk has passed are done.
use mathlib.Core.Path.{◌≡◌}
use Prim.Native.Nat.{◌/◌}
use lib.ListN.{length}
use Rattle.trial.specs.Flat.{channel_at}
use Rattle.trial.proofs.Firing.{Taking}
use Rattle.trial.proofs.run.take.Given as goal

abbrev pub invariant-loop-c : goal.invariant-loop-c
invariant-loop-c l = (l.c-iterator.links.now ≡ l.lists.into.now) × (l.c-iterator.actors ≡ l.lists.net.now.actors)
    × Taking (channel_at l.lists.net.now.channels.now) (length l.lists.net.now.channels.now / 5) l.v l.k.n l.c-iterator.at l.initial.tokens l.tokens
