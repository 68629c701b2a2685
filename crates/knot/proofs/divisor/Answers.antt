-- `divisor` finds a number that divides both. The invariant: what divides the two numbers at hand divides a and b.
use native.Mathlib.Omega.{arith}
use Rattle.knot.proofs.Keeping.{dividing_turn, dividing_end}
use Rattle.knot.proofs.divisor.Goals as goal

pub loop-y-preserved : goal.loop-y-preserved
loop-y-preserved c =
    dividing_turn c.loop-y.invariant (omega arith)

pub returns : goal.returns
returns c =
    dividing_end c.loop-y.invariant (omega arith)
