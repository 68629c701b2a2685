-- `unit` finds a number that divides those of all of the core. The invariant: d divides the numbers of those passed.
use Rattle.knot.proofs.Keeping.{uniting_turn, uniting_end, unit_one}
use Rattle.knot.proofs.unit.Goals as goal

pub returns-then-d-eq1 : goal.returns-then-d-eq1
returns-then-d-eq1 c =
    unit_one _ _ _ _ c.if-d-eq1.true

pub loop-v-preserved : goal.loop-v-preserved
loop-v-preserved c =
    uniting_turn c.loop-v.invariant c.in-Some.ensures.steps.2 c.divisor-d.ensures.1 c.divisor-d.ensures.2

pub returns : goal.returns
returns c =
    uniting_end _ c.loop-v.invariant c.in-None.ensures.steps c.max.ensures
