-- `core_of`. The invariant: a core; it is smaller after each turn.
use Rattle.sets.proofs.Gather.{gathers_of}
use Rattle.knot.proofs.Knots.{core_start, core_turn, wanted_below}
use Rattle.knot.proofs.core_of.Goals as goal

pub loop-core-init : goal.loop-core-init
loop-core-init c =
    (core_start c.args.waiting.now.net.now.drawn.sound c.requires.0, c.requires.1)

pub loop-core-preserved : goal.loop-core-preserved
loop-core-preserved c =
    let r = c.wanted-rest.ensures in
    (core_turn c.args.waiting.now.net.now.drawn.sound c.args.waiting.now.balanced (gathers_of c.args.waiting.now.awaited) c.loop-core.invariant.0 r, wanted_below r c.loop-core.invariant.1)
