-- `check::walk`: graph by graph, the first walk of document 01.
use Rattle.sheet.proofs.Walk.{Left}
use Rattle.sheet.proofs.check.walk.Given as goal

abbrev pub invariant-loop-k : goal.invariant-loop-k
invariant-loop-k g l = Left g.F.Form.size l.n (g.F.Form.entries l.initial.rest) l.k (g.F.Form.entries l.rest)
