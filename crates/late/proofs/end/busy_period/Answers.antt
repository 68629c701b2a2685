-- `end::busy_period` meets its contract.
use mathlib.Core.Path.{◌∙◌, sym}
use Rattle.late.proofs.Busy.{counted_none, counted_whole}
use Rattle.late.proofs.end.busy_period.Goals as goal

pub returns-then-count-eq0 : goal.returns-then-count-eq0
returns-then-count-eq0 c =
    let weight = c.args.weighted.now.weighed.weight c.args.i c.requires in
    c.of.ensures ∙ counted_none _ (sym weight ∙ sym c.count.ensures ∙ c.if-count-eq0.true)

pub returns : goal.returns
returns c =
    let weight = c.args.weighted.now.weighed.weight c.args.i c.requires in
    counted_whole _ _ (λ z. c.if-count-eq0.false (c.count.ensures ∙ weight ∙ z))
