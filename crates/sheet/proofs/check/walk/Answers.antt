-- `check::walk`: graph by graph, the first walk of document 01.
use mathlib.Core.Path.{sym, ◌∙◌}
use native.Mathlib.Omega.{arith}
use Rattle.std.proofs.lemmas.Result.{err_from_is_err_and}
use Rattle.sheet.specs.Check.{stretch}
use Rattle.sheet.proofs.Walk.{Passed, passed_bounds, graph_on, left_no, left_turn, left_over, left_end}
use Rattle.sheet.proofs.check.walk.Goals as goal

pub returns-in_err-graph : goal.returns-in_err-graph
returns-in_err-graph g c =
    let p = err_from_is_err_and c.from_residual.result c.from_residual.ensures.1 in
    rw (p.1, p.2) (left_no c.loop-k.invariant c.loop-k-test.true (sym c.graph.ensures ∙ c.in_err-graph.was))

pub at-requires : goal.at-requires
at-requires g c =
    omega (arith, (graph_on _ c.loop-k.k _ (sym c.graph.ensures ∙ c.in_ok-graph.was)).fixed, g.met.F.Form.sizes.fixed_is 0, g.met.F.Form.few.0)

pub at-requires-in-loop-k : goal.at-requires-in-loop-k
at-requires-in-loop-k g c =
    omega (arith, (graph_on _ c.loop-k.k _ (sym c.graph.ensures ∙ c.in_ok-graph.was)).fixed, g.met.F.Form.sizes.fixed_is 0, g.met.F.Form.few.0)

pub room-requires : goal.room-requires
room-requires g c =
    passed_bounds (graph_on _ c.loop-k.k _ (sym c.graph.ensures ∙ c.in_ok-graph.was)) c.at.ensures c.at-in-loop-k.ensures

pub from-rest-requires : goal.from-rest-requires
unfolding stretch
from-rest-requires g c =
    rw (c.room.ensures, c.at.ensures, c.at-in-loop-k.ensures) (graph_on _ c.loop-k.k _ (sym c.graph.ensures ∙ c.in_ok-graph.was)).whole

pub loop-k-preserved : goal.loop-k-preserved
unfolding stretch
loop-k-preserved g c =
    let p : Passed g.F.Form.size (g.F.Form.entries c.loop-k.rest) = graph_on _ c.loop-k.k _ (sym c.graph.ensures ∙ c.in_ok-graph.was) in
    rw (c.from-rest.ensures, c.room.ensures, c.at.ensures, c.at-in-loop-k.ensures) (left_turn c.loop-k.invariant c.loop-k-test.true p)

pub returns-then-len-gt0 : goal.returns-then-len-gt0
returns-then-len-gt0 g c =
    left_over c.loop-k.invariant c.loop-k-test.false c.loop-k.auto.k-end (omega arith)

pub returns : goal.returns
returns g c =
    left_end c.loop-k.invariant c.loop-k-test.false c.loop-k.auto.k-end (omega arith)
