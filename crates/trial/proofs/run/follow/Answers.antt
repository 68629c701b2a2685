-- `follow` visits v and then along the hints. The invariant: w is an actor, and is visited next.
use mathlib.Core.Path.{refl}
use native.Mathlib.Omega.{arith}
use Rattle.trial.proofs.Toward.{run_visitable, following_visit, following_again, following_underway, visited_fits, hint_less}
use Rattle.trial.proofs.run.follow.Goals as goal

pub visit-k-requires : goal.visit-k-requires
visit-k-requires c =
    let s = c.loop-next in (
      s.invariant.0,
      run_visitable c.args.lists.now.net.now.drawn (following_underway c.requires.1 s.invariant.1 s.auto.tokens s.auto.left s.auto.ready),
      omega (arith, c.requires.2, s.auto.hints),
    )

pub plus-sum-requires : goal.plus-sum-requires
plus-sum-requires c =
    visited_fits c.args.lists.now.net.now.drawn c.requires.1 (following_visit c.loop-next.invariant.1 c.visit-k.ensures.visited refl)

pub returns-in_default : goal.returns-in_default
returns-in_default c =
    following_visit c.loop-next.invariant.1 c.visit-k.ensures.visited c.plus-sum.ensures

pub loop-next-smaller : goal.loop-next-smaller
loop-next-smaller c =
    hint_less c.pop.new.hints c.visit-k.ensures.visited c.visit-k.ensures.hints_unchanged
    (c.in-Some.ensures.1, c.in-Some.ensures.2)
    c.visit-k.auto.hints
    c.pop.auto.hints

pub loop-next-preserved : goal.loop-next-preserved
loop-next-preserved c =
    (c.in-Some.ensures.0, following_again (following_visit c.loop-next.invariant.1 c.visit-k.ensures.visited c.plus-sum.ensures))
