-- `lower` meets its contract. The invariant: a channel into h that is not ahead is met, unless h has fallen.
use mathlib.Core.Path.{◌≡◌}
use Rattle.trial.specs.Net.{net_graph}
use Rattle.graph.proofs.Lowering.{Lowering}
use Rattle.graph.proofs.skip.lower.Given as goal

abbrev pub invariant-loop-c : goal.invariant-loop-c
invariant-loop-c l = (l.c-iterator.links.now ≡ l.into) × (l.c-iterator.actors ≡ l.net.actors)
    × Lowering (net_graph l.net) l.zero l.h l.c-iterator.at l.fell l.initial.s l.s
