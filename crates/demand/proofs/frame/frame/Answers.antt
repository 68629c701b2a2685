-- `frame::frame` meets its contract. The loop's invariant: `so_far` is the frame of the periods passed.
use mathlib.Core.Path.{refl}
use Rattle.demand.proofs.Multiples.{frames_turn, frames_outside, frames_whole}
use Rattle.demand.proofs.frame.frame.Goals as goal

pub returns-in_err-so_far : goal.returns-in_err-so_far
returns-in_err-so_far c =
    rw c.from_residual.ensures (frames_outside c.loop-head.invariant c.loop-head-test.true refl c.in_err-so_far.ensures)

pub loop-head-preserved : goal.loop-head-preserved
loop-head-preserved c =
    frames_turn c.loop-head.invariant c.loop-head-test.true refl c.in_ok-so_far.ensures

pub returns : goal.returns
returns c = frames_whole c.loop-head.invariant c.loop-head-test.false
