-- `put` adds what the firings produce and makes heads ready. The invariant: the channels that the walk has passed are done.
use mathlib.Core.Path.{◌≡◌}
use Prim.Native.Nat.{◌/◌}
use lib.ListN.{length}
use Rattle.trial.specs.Flat.{channel_at}
use Rattle.trial.proofs.Firing.{Putting}
use Rattle.trial.proofs.run.put.Given as goal

abbrev pub invariant-loop-c : goal.invariant-loop-c
invariant-loop-c l = (l.c-iterator.links.now ≡ l.lists.out.now) × (l.c-iterator.actors ≡ l.lists.net.now.actors)
    × Putting (channel_at l.lists.net.now.channels.now) (length l.lists.net.now.channels.now / 5) l.v l.k.n l.c-iterator.at l.initial.tokens l.initial.ready l.tokens l.ready
