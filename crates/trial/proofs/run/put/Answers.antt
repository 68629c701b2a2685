-- `put` adds what the firings produce and makes heads ready. The invariant: the channels that the walk has passed are done.
use native.Mathlib.Omega.{arith}
use Rattle.trial.proofs.Chains.{along_next}
use Rattle.trial.proofs.Firing.{putting_start, putting_turn}
use Rattle.trial.proofs.run.put.Goals as goal

pub loop-c-init : goal.loop-c-init
loop-c-init c =
    let of = c.of-c-items.ensures in
    rw c.into_iter-c-iterator.ensures.into_iter_gives (of.0, of.1, rw of.2 (putting_start (c.args.lists.now.linked_out.first c.args.v c.requires.0)))

pub loop-c-preserved : goal.loop-c-preserved
loop-c-preserved c =
    let step = c.in-Some.ensures.steps in
    let inv = c.loop-c.invariant in (
      rw step.0 inv.0,
      rw step.1 inv.1,
      putting_turn inv.2 step.2.0 (omega (arith, c.requires.1.tokens_room, step.2.0, inv.2.changed.walked.within))
          (along_next c.args.lists.now.linked_out inv.0 inv.1 inv.2.changed.walked step.2)
          c.at-e.ensures
          (omega (arith, c.count.ensures, c.plus-held.ensures, c.tokens.ensures, c.of.ensures))
          (rw (← c.count.ensures) at c.wake.ensures),
    )
