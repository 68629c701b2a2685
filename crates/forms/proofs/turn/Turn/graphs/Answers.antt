-- `Turn::graphs`: the graphs are written one after the other, each behind those before it.
use native.Mathlib.Omega.{arith}
use lib.ListN.{length-take, length-drop}
use Rattle.sheet.specs.Check.{stretch}
use Rattle.sheet.proofs.Walk.{Passed, passed_bounds, left_on}
use Rattle.forms.proofs.Writing.{writing_room, writing_turn}
use Rattle.forms.proofs.turn.Turn.graphs.Goals as goal

pub graph-requires : goal.graph-requires
graph-requires g c =
    let p : Passed g.Self.Form.size (g.Self.Form.entries c.loop.rest) = left_on c.loop.invariant.walk c.loop-test.true c.requires.0 in
    let r = writing_room g.met.Self.Turn.parts g.met.Self.Turn.one_by_one c.loop.invariant c.loop-test.true in
    (p.counts, p.whole, simp (length-take, length-drop) (omega (arith, r.1)))

pub at-actors-requires : goal.at-actors-requires
at-actors-requires g c =
    omega (arith, (left_on c.loop.invariant.walk c.loop-test.true c.requires.0).fixed, g.met.Self.Form.sizes.fixed_is 0, g.met.Self.Form.few.0)

pub at-channels-requires : goal.at-channels-requires
at-channels-requires g c =
    omega (arith, (left_on c.loop.invariant.walk c.loop-test.true c.requires.0).fixed, g.met.Self.Form.sizes.fixed_is 0, g.met.Self.Form.few.0)

pub room-to-requires : goal.room-to-requires
room-to-requires g c =
    passed_bounds (left_on c.loop.invariant.walk c.loop-test.true c.requires.0) c.at-actors.ensures c.at-channels.ensures

pub room-requires : goal.room-requires
room-requires g c =
    passed_bounds (left_on c.loop.invariant.walk c.loop-test.true c.requires.0) c.at-actors.ensures c.at-channels.ensures

pub from-rest-requires : goal.from-rest-requires
unfolding stretch
from-rest-requires g c =
    rw (c.room.ensures, c.at-actors.ensures, c.at-channels.ensures) (left_on c.loop.invariant.walk c.loop-test.true c.requires.0).whole

pub loop-preserved : goal.loop-preserved
unfolding stretch
loop-preserved g c =
    let p : Passed g.Self.Form.size (g.Self.Form.entries c.loop.rest) = left_on c.loop.invariant.walk c.loop-test.true c.requires.0 in
    rw (c.from-rest.ensures, c.room.ensures, c.at-actors.ensures, c.at-channels.ensures)
    (writing_turn g.met.Self.Turn.parts g.met.Self.Turn.one_by_one c.loop.invariant c.loop-test.true p c.graph.ensures (rw (c.room-to.ensures, c.at-actors.ensures, c.at-channels.ensures)))
