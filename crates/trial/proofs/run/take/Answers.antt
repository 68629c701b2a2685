-- `take` takes off what the firings consume. The invariant: the channels that the walk has passed are done.
use native.Mathlib.Omega.{arith}
use Rattle.trial.proofs.Chains.{along_next}
use Rattle.trial.proofs.Firing.{taking_start, taking_enough, taking_turn}
use Rattle.trial.proofs.run.take.Goals as goal

pub loop-c-init : goal.loop-c-init
loop-c-init c =
    let of = c.of-c-items.ensures in
    rw c.into_iter-c-iterator.ensures.into_iter_gives (of.0, of.1, rw of.2 (taking_start (c.args.lists.now.linked_into.first c.args.v c.requires.0)))

pub tokens-requires : goal.tokens-requires
tokens-requires c =
    let enough = taking_enough c.loop-c.invariant.2 c.in-Some.ensures.steps.2.0 c.at.ensures c.requires.2 in
    grind (arith, enough.0)

pub overflow_sub-tokens : goal.overflow_sub-tokens
overflow_sub-tokens c =
    let enough = taking_enough c.loop-c.invariant.2 c.in-Some.ensures.steps.2.0 c.at.ensures c.requires.2 in
    omega (arith, enough.0, enough.1, c.count.ensures, c.tokens.ensures)

pub loop-c-preserved : goal.loop-c-preserved
loop-c-preserved c =
    let step = c.in-Some.ensures.steps in
    let inv = c.loop-c.invariant in
    let enough = taking_enough inv.2 step.2.0 c.at.ensures c.requires.2 in (
      rw step.0 inv.0,
      rw step.1 inv.1,
      taking_turn _ inv.2 step.2.0 (omega (arith, step.2.0, inv.2.walked.within, c.requires.1))
          (along_next c.args.lists.now.linked_into inv.0 inv.1 inv.2.walked step.2)
          c.at.ensures
          (omega (arith, enough.0, enough.1, c.count.ensures, c.tokens.ensures)),
    )
