-- `keep` copies the channels within the core. The invariant: of the channels passed, all of those are copied and no others.
use mathlib.Core.Path.{◌≡◌}
use mathlib.Core.Bool.{true}
use Prim.Native.Nat.{◌/◌}
use native.Mathlib.Omega.{arith}
use lib.ListN.{length}
use Rattle.sets.specs.Sets.{has}
use Rattle.sets.proofs.Decided.{decided_yes, decided_no}
use Rattle.trial.specs.Flat.{channel_at, vector}
use Rattle.trial.specs.Net.{net_graph}
use Rattle.trial.specs.Knot.{waits}
use Rattle.knot.proofs.Keeping.{keeping_start, keeping_skip, keeping_turn, keeping_end}
use Rattle.knot.proofs.keep.Goals as goal
use Rattle.knot.proofs.keep.Goals.{then-within, else-within}

pub loop-c-init : goal.loop-c-init
loop-c-init c =
    keeping_start _ _ _ _

pub loop-c-preserved : goal.loop-c-preserved
loop-c-preserved c =
    let s = c.args in
    let k = c.loop-c.invariant in
    let e = channel_at s.net.now.channels.now c.loop-c.c in
    let W = (waits (net_graph s.net.now) (vector s.q.now) c.loop-c.c ≡ true) × (has s.core e.tail ≡ 1) × (has s.core e.head ≡ 1) in
    elim c.if-within.branch [
      | then-within w ↦
          rw (w.kept-is, w.n-is) (keeping_turn k (decided_yes W c.within.result w.if-within.true c.within.ensures) w.copy.ensures.there w.copy.ensures.others)
      | else-within w ↦ rw (w.kept-is, w.n-is) (keeping_skip k (decided_no W c.within.result w.if-within.false c.within.ensures))
    ]

pub returns : goal.returns
returns c =
    let net = c.args.net.now in
    let e : c.loop-c.c ≡ length net.channels.now / 5 = omega arith in
    let k = rw e at c.loop-c.invariant in
    (keeping_end net.actors net.input net.output net.channels.now k (omega (arith, k.fewer, c.requires.2)), k.fewer)
