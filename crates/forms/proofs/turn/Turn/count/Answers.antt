-- `Turn::count`: what the graphs take is added up graph by graph.
use native.Mathlib.Omega.{arith}
use Prim.Native.Nat.{◌≤◌}
use Rattle.sheet.specs.Layout.{largest_graph_bytes}
use Rattle.sheet.specs.Check.{stretch}
use Rattle.sheet.proofs.Walk.{Passed, sized_gives, passed_bounds, left_on}
use Rattle.forms.proofs.Writing.{small_room, counting_turn}
use Rattle.forms.proofs.turn.Turn.count.Goals as goal

pub at-actors-requires : goal.at-actors-requires
at-actors-requires g c =
    omega (arith, (left_on c.loop.invariant.walk c.loop-test.true c.requires.1).fixed, g.met.Self.Form.sizes.fixed_is 0, g.met.Self.Form.few.0)

pub at-channels-requires : goal.at-channels-requires
at-channels-requires g c =
    omega (arith, (left_on c.loop.invariant.walk c.loop-test.true c.requires.1).fixed, g.met.Self.Form.sizes.fixed_is 0, g.met.Self.Form.few.0)

pub room-sum-requires : goal.room-sum-requires
room-sum-requires g c =
    passed_bounds (left_on c.loop.invariant.walk c.loop-test.true c.requires.1) c.at-actors.ensures c.at-channels.ensures

pub room-requires : goal.room-requires
room-requires g c =
    passed_bounds (left_on c.loop.invariant.walk c.loop-test.true c.requires.1) c.at-actors.ensures c.at-channels.ensures

pub from-rest-requires : goal.from-rest-requires
unfolding stretch
from-rest-requires g c =
    rw (c.room.ensures, c.at-actors.ensures, c.at-channels.ensures) (left_on c.loop.invariant.walk c.loop-test.true c.requires.1).whole

pub overflow_add-sum : goal.overflow_add-sum
unfolding stretch
overflow_add-sum g c =
    let p : Passed g.Self.Form.size (g.Self.Form.entries c.loop.rest) = left_on c.loop.invariant.walk c.loop-test.true c.requires.1 in
    let small : c.room-sum.result ≤ largest_graph_bytes =
    rw (c.room-sum.ensures, c.at-actors.ensures, c.at-channels.ensures) (small_room g.met.Self.To.Form.sizes g.met.Self.To.Form.few (sized_gives _ p.counts)) in
    omega (arith, c.loop.invariant.small)

pub loop-preserved : goal.loop-preserved
unfolding stretch
loop-preserved g c =
    let p : Passed g.Self.Form.size (g.Self.Form.entries c.loop.rest) = left_on c.loop.invariant.walk c.loop-test.true c.requires.1 in
    let small : c.room-sum.result ≤ largest_graph_bytes =
    rw (c.room-sum.ensures, c.at-actors.ensures, c.at-channels.ensures) (small_room g.met.Self.To.Form.sizes g.met.Self.To.Form.few (sized_gives _ p.counts)) in
    rw (c.from-rest.ensures, c.room.ensures, c.at-actors.ensures, c.at-channels.ensures)
    (counting_turn g.met.Self.Turn.parts g.met.Self.Turn.one_by_one c.loop.invariant p c.loop-test.true (rw (c.room-sum.ensures, c.at-actors.ensures, c.at-channels.ensures)) small)
