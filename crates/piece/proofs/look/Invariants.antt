-- `piece::look` meets its contract. The loop's invariant: the demand of the graphs passed.
use mathlib.Core.Path.{◌≡◌}
use Rattle.sdf.specs.Sum.{sum_to}
use Rattle.demand.specs.Rows.{works_in}
use Rattle.demand.proofs.Costs.{graph_demand}
use Rattle.piece.specs.Pieces.{Pieces}
use Rattle.piece.proofs.look.Given as goal

abbrev pub invariant-loop-i : goal.invariant-loop-i
invariant-loop-i l = (l.sum.n ≡ sum_to (graph_demand (works_in l.rows) l.length.n) l.i) × Pieces (works_in l.rows) l.pieces
