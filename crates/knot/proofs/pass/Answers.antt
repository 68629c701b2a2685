-- `pass`. The invariant: who is not in the rest has fired all of q wherever a run stops, and the rest is some of those left.
use native.Mathlib.Nat.{le_trans}
use Rattle.sets.proofs.Gather.{gathers_of}
use Rattle.knot.proofs.Knots.{released_done, released_below}
use Rattle.knot.proofs.pass.Goals as goal
use Rattle.knot.proofs.pass.Goals.{then-v-actors, else-v-actors}

pub loop-v-preserved : goal.loop-v-preserved
loop-v-preserved c =
    let inv = c.loop-v.invariant in
    elim c.if-v-actors.branch [
      | then-v-actors w ↦
          let r = w.release-rest.ensures in
          rw w.rest-is (released_done c.args.waiting.now.net.now.drawn.sound c.args.waiting.now.balanced (gathers_of c.args.waiting.now.awaited) w.if-v-actors.true inv.0 r, released_below r inv.1, le_trans r.fewer inv.2)
      | else-v-actors w ↦ rw w.rest-is inv
    ]
