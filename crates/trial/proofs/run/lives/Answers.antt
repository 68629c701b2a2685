-- `lives` decides deadlock (01, Deadlock). Outer loop: a run toward q, with fewer firings still to come after each pass. Inner
-- loop: a pass, in which either something has fired or no actor passed is ready.
use native.Mathlib.Omega.{arith}
use Rattle.trial.specs.Flat.{vector}
use Rattle.trial.specs.Net.{net_graph}
use Rattle.trial.proofs.Toward.{run_start, Over, over_done, over_stuck, run_decides}
use Rattle.trial.proofs.run.lives.Goals as goal
use Rattle.trial.proofs.run.lives.Goals.{After-count-2, then-loop-v-test+then-count-eq0, else-loop-v-test+then-not-fired}

pub run-init : goal.run-init
run-init c = run_start c.initial.ensures c.start-rest.ensures

-- Past the loops, whichever of the two ways led there.
over :
    (c : After-count-2) →
    Over
    (net_graph c.args.lists.now.net.now)
    (vector c.args.q.now)
    c.loop-v-test.tokens
    c.loop-v-test.left
    c.loop-v-test.ready
    c.loop-v-test.rest.n
over c =
    elim c.loop-v-test.branch [
      | then-loop-v-test+then-count-eq0 w ↦
          rw (w.tokens-is, w.left-is, w.ready-is, w.rest-is)
          (over_done
          (rw w.less-rest.ensures (w.follow-k.ensures.run _ _ c.loop-v.invariant.run))
          (omega (arith, w.count-in-loop-v.ensures, w.if-count-eq0.true)))
      | else-loop-v-test+then-not-fired w ↦
          rw (w.tokens-is, w.left-is, w.ready-is, w.rest-is)
          (over_stuck c.loop-v.invariant w.loop-v-test.false w.if-not-fired.true)
    ]

pub returns : goal.returns
returns c = rw c.count-2.ensures (run_decides c.args.lists.now.net.now.drawn.sound (over c))
