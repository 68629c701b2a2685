-- `divisor` finds a number that divides both. The invariant: what divides the two numbers at hand divides a and b.
use Rattle.knot.proofs.Keeping.{Dividing}
use Rattle.knot.proofs.divisor.Given as goal

abbrev pub invariant-loop-y : goal.invariant-loop-y
invariant-loop-y l = Dividing l.a l.b l.x l.y

abbrev pub decreases-loop-y : goal.decreases-loop-y
decreases-loop-y l = l.y
