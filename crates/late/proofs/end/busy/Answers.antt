-- `end::busy` meets its contract. The loop's invariant: `so_far` is the frame of the periods passed that count.
use native.Mathlib.Omega.{arith}
use Rattle.demand.specs.Rows.{works_in}
use Rattle.demand.proofs.Multiples.{frames_start, frames_turn}
use Rattle.late.proofs.Busy.{frame_carries, busy_bounds, busy_carries}
use Rattle.late.proofs.end.busy.Goals as goal

pub loop-i-init : goal.loop-i-init
loop-i-init c =
    let rows = c.args.weighted.now.rows.now in
    frames_start (busy_bounds (works_in rows) rows.lent.bounded) c.of-so_far.ensures

-- Where the frame of the periods that count is above the bound.
pub returns-in_default : goal.returns-in_default
returns-in_default c =
    frame_carries (works_in c.args.weighted.now.rows.now) c.requires

pub loop-i-preserved : goal.loop-i-preserved
loop-i-preserved c =
    frames_turn c.loop-i.invariant (omega arith) c.busy_period.ensures c.in-Some.ensures

pub returns : goal.returns
returns c =
    busy_carries (works_in c.args.weighted.now.rows.now) c.loop-i.invariant (omega arith) c.requires
