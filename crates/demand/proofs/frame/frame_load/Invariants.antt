-- `frame::frame_load` meets its contract. The loop's invariant: the load of the graphs passed.
use mathlib.Core.Path.{◌≡◌}
use Rattle.sdf.specs.Sum.{sum_to}
use Rattle.demand.specs.Rows.{works_in}
use Rattle.demand.proofs.Costs.{graph_load}
use Rattle.demand.proofs.frame.frame_load.Given as goal

abbrev pub invariant-loop-i : goal.invariant-loop-i
invariant-loop-i l = l.sum.n ≡ sum_to (graph_load (works_in l.weighted.rows.now) l.frame.n) l.i
