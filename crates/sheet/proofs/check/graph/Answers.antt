-- `check::graph`: fixed part, counts and rest, in their order.
use native.Mathlib.Omega.{arith}
use Rattle.sheet.proofs.GraphLayout.{layout_is}
use Rattle.sheet.proofs.Walk.{told_bounds, told_cut, told_size, told_short, told_on}
use Rattle.sheet.proofs.check.graph.Goals as goal

pub returns-then-len-room : goal.returns-then-len-room
returns-then-len-room g c =
    told_cut g.F.Form.size (g.met.F.Form.sizes.fixed_is 0) _ _ (omega (arith, layout_is g.met.F.Form.sizes 0 0))

pub at-actors-requires : goal.at-actors-requires
at-actors-requires g c =
    omega (arith, g.met.F.Form.few.0, layout_is g.met.F.Form.sizes 0 0)

pub at-channels-requires : goal.at-channels-requires
at-channels-requires g c =
    omega (arith, g.met.F.Form.few.0, layout_is g.met.F.Form.sizes 0 0)

pub returns-then-not-sized : goal.returns-then-not-sized
returns-then-not-sized g c =
    told_size g.F.Form.size (g.met.F.Form.sizes.fixed_is 0) _ _ (omega (arith, layout_is g.met.F.Form.sizes 0 0)) (rw (c.at-actors.ensures, c.at-channels.ensures) at c.sized.ensures) c.if-not-sized.true

pub room-requires-2 : goal.room-requires-2
room-requires-2 g c =
    told_bounds _ _ c.sized.ensures c.if-not-sized.false

pub returns-then-len-room-2 : goal.returns-then-len-room-2
returns-then-len-room-2 g c =
    told_short g.F.Form.size (g.met.F.Form.sizes.fixed_is 0) _ _ (omega (arith, layout_is g.met.F.Form.sizes 0 0)) (rw (c.at-actors.ensures, c.at-channels.ensures) at c.sized.ensures) c.if-not-sized.false
    (rw (c.at-actors.ensures, c.at-channels.ensures) at c.room-2.ensures) (omega arith)

pub returns : goal.returns
returns g c =
    told_on g.F.Form.size (g.met.F.Form.sizes.fixed_is 0) _ _ (omega (arith, layout_is g.met.F.Form.sizes 0 0)) (rw (c.at-actors.ensures, c.at-channels.ensures) at c.sized.ensures) c.if-not-sized.false
    (rw (c.at-actors.ensures, c.at-channels.ensures) at c.room-2.ensures) (omega arith)
