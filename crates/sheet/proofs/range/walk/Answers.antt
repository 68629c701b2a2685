-- `range::walk` meets its contract: answer 6 for the graphs one after the other. Before each turn the graphs from k on decide.
use mathlib.Core.Path.{sym, ◌∙◌}
use Rattle.sheet.proofs.Walk.{left_on}
use Rattle.sheet.proofs.Ranges.{ranges_turn}
use Rattle.sheet.proofs.range.walk.Goals as goal

pub invariant_of-graph : goal.invariant_of-graph
invariant_of-graph c =
    let p = left_on c.loop-k.invariant.walk c.loop-k-test.true c.requires in
    record { counts = p.counts; whole = p.whole }

pub loop-k-preserved : goal.loop-k-preserved
loop-k-preserved c =
    rw c.behind-rest.ensures (ranges_turn c.loop-k.invariant c.loop-k-test.true c.requires (sym c.in_range.ensures ∙ c.if-not-in_range.false))
