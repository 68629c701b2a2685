-- `draw` meets its contract. The invariant: the neighbours and pairs are filled in by the channels passed.
use Rattle.trial.specs.Net.{net_graph}
use Rattle.repeat.proofs.Drawing.{Drawing}
use Rattle.repeat.proofs.draw.draw.Given as goal

abbrev pub invariant-loop-c : goal.invariant-loop-c
invariant-loop-c l = Drawing (net_graph l.net) l.c l.back l.neighbours l.between
