-- `Turn::graph`: behind the fixed part one actor after the other, then one channel after the other.
use mathlib.Core.Path.{◌≡◌, refl}
use native.Mathlib.Omega.{arith}
use Rattle.std.proofs.Common.{rules}
use Prim.Native.Nat.{◌≤◌}
use lib.ListN.{length, drop, length-take, length-drop}
use Rattle.sheet.specs.Check.{stretch}
use Rattle.sheet.proofs.GraphLayout.{layout_is}
use Rattle.sheet.proofs.Walk.{Sized, sized_gives}
use Rattle.sheet.proofs.Parts.{fixed_room, actor_room, channel_room, parts_turn, graph_actors, graph_channels, graph_end}
use Rattle.forms.proofs.turn.Turn.graph.Goals as goal

pub at-actors-requires : goal.at-actors-requires
at-actors-requires g c =
    omega (arith, fixed_room g.met.Self.Form.sizes _ c.requires.1, g.met.Self.Form.few.0)

pub at-channels-requires : goal.at-channels-requires
at-channels-requires g c =
    omega (arith, fixed_room g.met.Self.Form.sizes _ c.requires.1, g.met.Self.Form.few.0)

pub fixed-requires : goal.fixed-requires
fixed-requires g c =
    (fixed_room g.met.Self.Form.sizes _ c.requires.1, fixed_room g.met.Self.To.Form.sizes _ c.requires.2)

pub loop-k-init : goal.loop-k-init
unfolding stretch
loop-k-init g c =
    graph_actors g.met.Self.Turn.parts g.met.Self.Form.sizes g.met.Self.To.Form.sizes _ _ _ (omega arith) (omega arith)
    (rw (c.at-actors.ensures, c.at-channels.ensures) c.requires.2) c.fixed.ensures

pub room-requires : goal.room-requires
room-requires g c =
    let z : Sized (g.Self.Form.entries c.args.self) = sized_gives _ c.requires.0 in
    (omega (arith, c.at-actors.ensures), omega arith)

pub from-requires : goal.from-requires
from-requires g c =
    omega (arith, actor_room g.met.Self.Form.sizes _ c.requires.1 c.at-actors.ensures c.loop-k-test.true c.room.ensures)

pub room-requires-in-loop-k : goal.room-requires-in-loop-k
room-requires-in-loop-k g c =
    let z : Sized (g.Self.Form.entries c.args.self) = sized_gives _ c.requires.0 in
    (omega (arith, c.at-actors.ensures), omega arith)

pub offset_bounds-out-room : goal.offset_bounds-out-room
offset_bounds-out-room g c =
    let inside : c.room-in-loop-k.result ≤ length c.loop-k.out = omega (arith, actor_room g.met.Self.To.Form.sizes _ c.requires.2 c.at-actors.ensures c.loop-k-test.true c.room-in-loop-k.ensures) in
    search rules

pub slice_bounds-time-count : goal.slice_bounds-time-count
slice_bounds-time-count g c =
    omega (arith, actor_room g.met.Self.To.Form.sizes _ c.requires.2 c.at-actors.ensures c.loop-k-test.true c.room-in-loop-k.ensures)

pub slice_bounds-time-start : goal.slice_bounds-time-start
slice_bounds-time-start g c =
    omega (arith, actor_room g.met.Self.To.Form.sizes _ c.requires.2 c.at-actors.ensures c.loop-k-test.true c.room-in-loop-k.ensures)

pub time-requires : goal.time-requires
time-requires g c = (
  rw (c.from.ensures, length-drop) (omega (arith, actor_room g.met.Self.Form.sizes _ c.requires.1 c.at-actors.ensures c.loop-k-test.true c.room.ensures)),
  simp (length-take, length-drop) (omega (arith, actor_room g.met.Self.To.Form.sizes _ c.requires.2 c.at-actors.ensures c.loop-k-test.true c.room-in-loop-k.ensures)),
)

pub loop-k-preserved : goal.loop-k-preserved
loop-k-preserved g c =
    parts_turn g.met.Self.Turn.parts c.loop-k.invariant c.loop-k-test.true g.met.Self.Form.sizes.actor_is g.met.Self.To.Form.sizes.actor_is
    (omega (arith, layout_is g.met.Self.Form.sizes c.loop-k.k 0)) (omega (arith, layout_is g.met.Self.To.Form.sizes c.loop-k.k 0)) (omega arith) (omega arith)
    (rw c.from.ensures at c.time.ensures)

pub loop-k-2-init : goal.loop-k-2-init
loop-k-2-init g c =
    let end : c.at-actors.result ≡ c.loop-k.k = omega arith in
    graph_channels g.met.Self.Turn.parts g.met.Self.Form.sizes g.met.Self.To.Form.sizes _ _ _ c.loop-k-test.false (omega arith) (rw end (omega arith)) c.loop-k.invariant

pub room-requires-in-loop-k-2 : goal.room-requires-in-loop-k-2
room-requires-in-loop-k-2 g c =
    let z : Sized (g.Self.Form.entries c.args.self) = sized_gives _ c.requires.0 in
    (omega (arith, c.at-actors.ensures), omega (arith, c.at-channels.ensures))

pub from-requires-in-loop-k-2 : goal.from-requires-in-loop-k-2
from-requires-in-loop-k-2 g c =
    omega (arith, channel_room g.met.Self.Form.sizes _ c.requires.1 c.at-actors.ensures c.at-channels.ensures c.loop-k-2-test.true c.room-in-loop-k-2.ensures)

pub room-requires-in-loop-k-2-2 : goal.room-requires-in-loop-k-2-2
room-requires-in-loop-k-2-2 g c =
    let z : Sized (g.Self.Form.entries c.args.self) = sized_gives _ c.requires.0 in
    (omega (arith, c.at-actors.ensures), omega (arith, c.at-channels.ensures))

pub offset_bounds-out-room-in-loop-k-2 : goal.offset_bounds-out-room-in-loop-k-2
offset_bounds-out-room-in-loop-k-2 g c =
    let inside : c.room-in-loop-k-2-2.result ≤ length c.loop-k-2.out = omega (arith, channel_room g.met.Self.To.Form.sizes _ c.requires.2 c.at-actors.ensures c.at-channels.ensures c.loop-k-2-test.true c.room-in-loop-k-2-2.ensures) in
    search rules

pub slice_bounds-channel-count : goal.slice_bounds-channel-count
slice_bounds-channel-count g c =
    omega (arith, channel_room g.met.Self.To.Form.sizes _ c.requires.2 c.at-actors.ensures c.at-channels.ensures c.loop-k-2-test.true c.room-in-loop-k-2-2.ensures)

pub slice_bounds-channel-start : goal.slice_bounds-channel-start
slice_bounds-channel-start g c =
    omega (arith, channel_room g.met.Self.To.Form.sizes _ c.requires.2 c.at-actors.ensures c.at-channels.ensures c.loop-k-2-test.true c.room-in-loop-k-2-2.ensures)

pub channel-requires : goal.channel-requires
channel-requires g c = (
  rw (c.from-in-loop-k-2.ensures, length-drop) (omega (arith, channel_room g.met.Self.Form.sizes _ c.requires.1 c.at-actors.ensures c.at-channels.ensures c.loop-k-2-test.true c.room-in-loop-k-2.ensures)),
  simp (length-take, length-drop) (omega (arith, channel_room g.met.Self.To.Form.sizes _ c.requires.2 c.at-actors.ensures c.at-channels.ensures c.loop-k-2-test.true c.room-in-loop-k-2-2.ensures)),
)

pub loop-k-2-preserved : goal.loop-k-2-preserved
loop-k-2-preserved g c =
    parts_turn g.met.Self.Turn.parts c.loop-k-2.invariant c.loop-k-2-test.true (g.met.Self.Form.sizes.channel_is _) (g.met.Self.To.Form.sizes.channel_is _)
    (omega (arith, layout_is g.met.Self.Form.sizes c.at-actors.result c.loop-k-2.k)) (omega (arith, layout_is g.met.Self.To.Form.sizes c.at-actors.result c.loop-k-2.k))
    (omega arith) (omega arith)
    (rw (
      c.from-in-loop-k-2.ensures,
      ← g.met.Self.Turn.parts.channel_any c.at-actors.result (drop c.room-in-loop-k-2.result (g.Self.Form.entries c.args.self)),
    ) at c.channel.ensures)

pub returns : goal.returns
unfolding stretch
returns g c =
    rw (← c.at-actors.ensures, ← c.at-channels.ensures)
    (graph_end g.met.Self.Turn.parts g.met.Self.Form.sizes g.met.Self.To.Form.sizes _ _ _ c.loop-k-2-test.false c.loop-k-2.invariant refl)
