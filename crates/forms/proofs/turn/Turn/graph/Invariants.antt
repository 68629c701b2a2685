-- `Turn::graph`: behind the fixed part one actor after the other, then one channel after the other.
use mathlib.Core.List.{[]}
use Prim.Native.Nat.{◌+◌, ◌*◌}
use lib.ListN.{drop}
use Rattle.sheet.specs.Layout.{actor_part, channel_part, times, layout}
use Rattle.sheet.proofs.Parts.{Parts}
use Rattle.forms.proofs.turn.Turn.graph.Given as goal

abbrev pub invariant-loop-k : goal.invariant-loop-k
invariant-loop-k g l =
    let h = g.Self.Form in
    let o = g.Self.To.Form in
    let s = h.entries l.self in
    let made = g.Self.Turn.made in
    Parts made actor_part l.actors s (made (times l.channels (channel_part l.actors)) (drop (h.fixed + l.actors * h.actor) s)) l.fn.out l.out
    (made (layout l.actors l.channels) s) l.k (h.fixed + l.k * h.actor) (o.fixed + l.k * o.actor)

abbrev pub invariant-loop-k-2 : goal.invariant-loop-k-2
invariant-loop-k-2 g l =
    let h = g.Self.Form in
    let o = g.Self.To.Form in
    let s = h.entries l.self in
    let made = g.Self.Turn.made in
    Parts made (channel_part l.actors) l.channels s [] l.fn.out l.out (made (layout l.actors l.channels) s) l.k
    (h.fixed + l.actors * h.actor + l.k * h.channel) (o.fixed + l.actors * o.actor + l.k * o.channel)
