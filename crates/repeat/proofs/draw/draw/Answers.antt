-- `draw` meets its contract. The invariant: the neighbours and pairs are filled in by the channels passed.
use mathlib.Core.Path.{refl, sym, ap, ◌∙◌}
use Prim.Native.Nat.{ℕ}
use native.Mathlib.Omega.{arith}
use Rattle.trial.specs.Net.{net_graph}
use Rattle.trial.specs.Read.{seen, Read}
use Rattle.trial.proofs.Places.{read}
use borrow.Author.Rules.{rules}
use lib.ListN.{replicate}
use lib.Seq.{length-take-le}
use Rattle.repeat.specs.Words.{nobody}
use Rattle.repeat.proofs.Drawing.{put_by, place_below, drawing_start, drawing_turn}
use Rattle.repeat.proofs.draw.draw.Goals as goal
use Rattle.repeat.proofs.draw.draw.Goals.{After-at-e}

-- The channel that is read.
channel : (c : After-at-e) → Read (net_graph c.args.net.now) c.loop-c.c (seen c.at-e.result)
channel c = read (net_graph c.args.net.now) c.loop-c.c (seen c.at-e.result) c.args.net.now.drawn (omega (arith, c.loop-c-test.true, c.channel_count-c-end.ensures)) (sym c.at-e.ensures)

pub loop-c-init : goal.loop-c-init
loop-c-init c =
    let n = c.args.net.now.actors in
    drawing_start (net_graph c.args.net.now) c.fill.new.self _ c.args.between.now (c.fill.ensures.after (λ y h. search rules) ∙ ap (λ (n : ℕ). replicate n nobody) (length-take-le n c.args.neighbours.now c.requires.0))

pub bounds-between-net : goal.bounds-between-net
bounds-between-net c =
    let e = channel (goal.at.bounds-between-net c).After-at-e in
    omega (arith, place_below c.args.net.now.actors c.at-e.result.tail c.at-e.result.head e.tail e.head, c.requires.1, c.loop-c.auto.between)

pub loop-c-preserved : goal.loop-c-preserved
loop-c-preserved c =
    let k = goal.at.loop-c-preserved c in
    let e = c.at-e.result in
    drawing_turn c.args.net.now.drawn (omega (arith, c.loop-c-test.true, c.channel_count-c-end.ensures)) (omega (arith, c.requires.1, c.loop-c.auto.between)) (channel k.After-at-e) c.loop-c.invariant
    record {
      head = c.with-tail.ensures;
      tail = c.with-head.ensures;
      ties = put_by e.tokens.n e.produce.n c.lt.ensures c.with-head-in-loop-c.ensures;
      kept = put_by e.tokens.n e.consume.n c.lt-in-loop-c.ensures c.with-back.ensures;
      noted = refl;
    }
