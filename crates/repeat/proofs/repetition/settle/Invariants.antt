-- `settle` looks at the channels one after the other. The invariant: those before c are even, and who awaits whom by them is gathered.
use Rattle.trial.specs.Flat.{vector}
use Rattle.trial.specs.Net.{net_graph}
use Rattle.repeat.proofs.Growth.{Settling}
use Rattle.repeat.proofs.repetition.settle.Given as goal

abbrev pub invariant-loop-c : goal.invariant-loop-c
invariant-loop-c l = Settling (net_graph l.net) (vector l.q) l.c l.awaits
