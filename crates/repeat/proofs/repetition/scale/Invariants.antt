-- `scale` multiplies every number, or shows one that would pass the bound.
use Rattle.repeat.proofs.Growth.{Scaling}
use Rattle.repeat.proofs.repetition.scale.Given as goal

abbrev pub invariant-loop-number : goal.invariant-loop-number
invariant-loop-number l = Scaling l.k l.number-index l.initial.number-items l.number-items
