-- `unit` finds a number that divides those of all of the core. The invariant: d divides the numbers of those passed.
use Rattle.trial.specs.Flat.{vector}
use Rattle.knot.proofs.Keeping.{Uniting}
use Rattle.knot.proofs.unit.Given as goal

abbrev pub invariant-loop-v : goal.invariant-loop-v
invariant-loop-v l = Uniting (vector l.q) l.core l.v-iterator.rest l.d
