-- `glance::without_skips` meets its contract. The loop's invariant: what the graphs passed ask as if nothing were skipped.
use mathlib.Core.Path.{◌≡◌}
use Rattle.sdf.specs.Sum.{sum_to}
use Rattle.demand.specs.Rows.{works_in}
use Rattle.late.proofs.Glances.{graph_whole}
use Rattle.late.proofs.glance.without_skips.Given as goal

abbrev pub invariant-loop-i : goal.invariant-loop-i
invariant-loop-i l = l.sum.n ≡ sum_to (graph_whole (works_in l.weighted.rows.now) l.length.n) l.i
