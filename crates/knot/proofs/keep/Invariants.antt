-- `keep` copies the channels within the core. The invariant: of the channels passed, all of those are copied and no others.
use Rattle.trial.specs.Flat.{vector}
use Rattle.trial.specs.Net.{net_graph}
use Rattle.knot.proofs.Keeping.{Keeping}
use Rattle.knot.proofs.keep.Given as goal

abbrev pub invariant-loop-c : goal.invariant-loop-c
invariant-loop-c l = Keeping (net_graph l.net) (vector l.q) l.core l.c l.n l.kept
