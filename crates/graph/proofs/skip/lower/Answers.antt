-- `lower` meets its contract. The invariant: a channel into h that is not ahead is met, unless h has fallen.
use mathlib.Core.Path.{◌≡◌, ap, sym, subst}
use Prim.Native.Nat.{◌+◌, ◌*◌, ◌^◌, ◌<◌}
use native.Mathlib.Omega.{arith}
use lib.ListN.{get_or}
use Rattle.sdf.specs.Graph.{Channel}
use Rattle.sdf.specs.Skip.{allowed}
use Rattle.trial.specs.Flat.{channel_at}
use Rattle.trial.specs.Net.{net_graph}
use Rattle.sets.specs.Decides.{Decides}
use Rattle.trial.proofs.Chains.{along_next}
use Rattle.sets.proofs.Decided.{decided_yes}
use Rattle.trial.proofs.Ends.{Ends, channel_ends}
use Rattle.graph.proofs.Lowering.{lowering_start, lowering_fits, lowering_asks, lowering_lower}
use Rattle.graph.proofs.skip.lower.Goals as goal
use Rattle.graph.proofs.skip.lower.Goals.{After-at-e, After-of}

-- The channel that is read leads from its tail to h.
ends : (c : After-at-e) → Ends (net_graph c.args.net.now) c.args.net.now.actors c.in-Some.c c.at-e.result.tail c.args.h
ends c =
    let here = c.in-Some.ensures.steps.2.0 in
    let walked = c.loop-c.invariant.2.walked in
    channel_ends c.args.net.now.drawn.sound (omega (arith, walked.within, here)) (ap (λ (e : Channel). e.tail) (sym c.at-e.ensures)) (walked.ends _ here)

-- What `lowers` and `allowed` ask of the channel holds of the graph's.
asks : (c : After-of) → Ends (net_graph c.args.net.now) c.args.net.now.actors c.in-Some.c c.at-e.result.tail c.args.h
    → (0 < c.at-e.result.produce.n) × (c.at-e.result.tokens.n + c.of-skip.result.n * c.at-e.result.consume.n < 2 ^ 64) × (c.of.result.n * c.at-e.result.produce.n < 2 ^ 64)
asks c e =
    let d = c.args.net.now.drawn in
    subst (λ (e : Channel). (0 < e.produce) × (e.tokens + c.of-skip.result.n * e.consume < 2 ^ 64) × (c.of.result.n * e.produce < 2 ^ 64)) (sym c.at-e.ensures)
    (d.sound.produce _ e.channel, rw c.of-skip.ensures (lowering_fits e c.loop-c.invariant.2 d), rw c.of.ensures (lowering_asks e c.loop-c.invariant.2 d))

pub loop-c-init : goal.loop-c-init
loop-c-init c =
    let of = c.of-c-items.ensures in
    rw c.into_iter-c-iterator.ensures.into_iter_gives (of.0, of.1, rw of.2 (lowering_start c.requires.falling (c.requires.drawn.0.first c.args.h c.requires.drawn.1)))

pub lowers-requires : goal.lowers-requires
lowers-requires c = let k = goal.at.lowers-requires c in asks k.After-of (ends k.After-at-e)

pub allowed-requires : goal.allowed-requires
allowed-requires c = let k = goal.at.allowed-requires c in let a = asks k.After-of (ends k.After-at-e) in (a.0, a.1)

pub loop-c-preserved-then-lowers : goal.loop-c-preserved-then-lowers
loop-c-preserved-then-lowers c =
    let k = goal.at.loop-c-preserved-then-lowers c in
    let step = c.in-Some.ensures.steps in
    let inv = c.loop-c.invariant in
    let e = channel_at c.args.net.now.channels.now c.in-Some.c in
    let tested : Decides c.lowers.result (allowed e (get_or c.loop-c.s c.args.h 0) < get_or c.loop-c.s c.at-e.result.tail 0) = rw (c.at-e.ensures, c.of-skip.ensures, c.of.ensures) at c.lowers.ensures in
    let most : c.count.result ≡ allowed e (get_or c.loop-c.s c.args.h 0) = rw (← c.count.ensures, c.at-e.ensures, c.of-skip.ensures) at c.allowed.ensures in (
      rw step.0 inv.0,
      rw step.1 inv.1,
      lowering_lower (ends k.After-at-e) inv.2 c.count.result most
          (decided_yes _ c.lowers.result c.if-lowers.true tested)
          c.with-fell.ensures
          step.2.0
          (along_next c.requires.drawn.0 inv.0 inv.1 inv.2.walked step.2)
          c.requires.drawn.2,
    )
