-- `range::walk` meets its contract: answer 6 for the graphs one after the other. Before each turn the graphs from k on decide.
use Rattle.sheet.proofs.Ranges.{RangesWalk}
use Rattle.sheet.proofs.range.walk.Given as goal

abbrev pub invariant-loop-k : goal.invariant-loop-k
invariant-loop-k l = RangesWalk l.graphs l.initial.rest l.k l.rest
