-- `wanted` asks everybody of the set, one at a time.
use Rattle.knot.proofs.Knots.{wanting_turn, wanting_end}
use Rattle.knot.proofs.wanted.Goals as goal

pub loop-v-preserved : goal.loop-v-preserved
loop-v-preserved c =
    wanting_turn c.loop-v.invariant c.joined-all.ensures c.in-Some.ensures.steps.2

pub returns : goal.returns
returns c =
    wanting_end c.loop-v.invariant c.in-None.ensures.steps c.common.ensures.0 c.common.ensures.1
