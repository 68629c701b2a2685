-- `prepare::numbers` meets its contract: answers 6 to 11 for one graph.
use mathlib.Core.Path.{sym, ◌∙◌}
use native.Mathlib.Omega.{arith}
use borrow.Author.Rules.{rules}
use Rattle.ready.proofs.Sound.{drawn_sound}
use Rattle.ready.proofs.Says.{placed, says}
use Rattle.ready.proofs.prepare.numbers.Goals as goal

pub invariant_of-net : goal.invariant_of-net
invariant_of-net c =
    let g = c.args.graph.now in
    record {
      drawn =
          rw (c.actors.ensures.0, c.input.ensures, c.output.ensures, c.channels.ensures.0)
          (drawn_sound g.numbers.now g.counts g.whole (sym c.in_range.ensures ∙ c.if-not-in_range.false));
    }

pub returns : goal.returns
returns c =
    let g = c.args.graph.now in
    let q = c.numbers.new.q in
    let s = c.numbers.new.s in
    let e = placed c.numbers.result c.map_err.result c.args.k c.map_err.ensures.cases (λ f r h. search rules) in
    rw e
    (says c.args.k g.numbers.now q s g.counts g.whole (omega arith) (omega arith) (sym c.in_range.ensures ∙ c.if-not-in_range.false) c.numbers.result
    (rw (c.actors.ensures.0, c.input.ensures, c.output.ensures, c.channels.ensures.0) at c.numbers.ensures))
