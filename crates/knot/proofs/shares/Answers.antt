-- `shares` divides the numbers of the core by one that divides them all. The invariant: the entries passed are so.
use native.Mathlib.Omega.{arith}
use Rattle.trial.specs.Flat.{vector}
use Rattle.knot.proofs.Keeping.{share_fits, shares_end}
use Rattle.knot.proofs.shares.Goals as goal

pub overflow_mul-share : goal.overflow_mul-share
overflow_mul-share c =
    omega (arith, share_fits (vector c.args.q.now c.loop-v.v) _ _ c.has.ensures)

pub returns : goal.returns
returns c =
    shares_end _ c.args.actors c.unit-d.ensures (λ v l. c.loop-v.invariant v (omega arith))
