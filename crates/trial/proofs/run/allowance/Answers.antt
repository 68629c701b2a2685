-- `allowance` returns the greatest number of firings that all channels let the actor make in a row. The invariant: what those that
-- the walk has passed let it make.
use Rattle.trial.proofs.Chains.{along_next}
use Rattle.trial.proofs.Firing.{allowing_turn}
use Rattle.trial.proofs.run.allowance.Goals as goal

pub loop-c-preserved : goal.loop-c-preserved
loop-c-preserved c =
    let step = c.in-Some.ensures.steps in
    let inv = c.loop-c.invariant in (
      rw step.0 inv.0,
      rw step.1 inv.1,
      allowing_turn inv.2 step.2.0 (along_next c.args.lists.now.linked_into inv.0 inv.1 inv.2.walked step.2) (rw (c.at.ensures, c.of.ensures) at c.times-k.ensures),
    )
