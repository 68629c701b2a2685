-- `factor` gives the least factor: the loop goes up from 1 and keeps what k times the tokens leave.
use native.Mathlib.Omega.{arith}
use Rattle.repeat.proofs.Growth.{factoring_turn, factoring_end}
use Rattle.repeat.proofs.repetition.factor.Goals as goal

pub loop-rest-smaller : goal.loop-rest-smaller
loop-rest-smaller c =
    omega (arith, (factoring_turn c.loop-rest.invariant c.loop-rest-test.true).0)

pub loop-rest-preserved : goal.loop-rest-preserved
loop-rest-preserved c =
    rw c.left-rest.ensures (factoring_turn c.loop-rest.invariant c.loop-rest-test.true).1

pub returns : goal.returns
returns c =
    rw (← c.count-m.ensures, ← c.count-c.ensures) (factoring_end c.loop-rest.invariant c.loop-rest-test.false)
