-- `end::surplus_of` meets its contract. The loop's invariant: the sum over the graphs passed.
use mathlib.Core.Path.{◌≡◌}
use Rattle.sdf.specs.Sum.{sum_to}
use Rattle.demand.specs.Rows.{works_in}
use Rattle.late.specs.Search.{graph_surplus}
use Rattle.late.proofs.end.surplus_of.Given as goal

abbrev pub invariant-loop-i : goal.invariant-loop-i
invariant-loop-i l = l.sum ≡ sum_to (graph_surplus (works_in l.weighted.rows.now) l.frame.n) l.i
