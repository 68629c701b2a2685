-- `wanted` asks everybody of the set, one at a time.
use Rattle.trial.specs.Flat.{vector}
use Rattle.knot.proofs.Knots.{Wanting}
use Rattle.knot.proofs.wanted.Given as goal

abbrev pub invariant-loop-v : goal.invariant-loop-v
invariant-loop-v l = Wanting (vector l.awaits) l.left l.all l.v-iterator.rest
