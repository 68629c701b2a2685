-- `cycle::fill` meets its contract. The loop's invariant: the table is filled from `at` on, and the pieces are pieces.
use Rattle.demand.specs.Rows.{works_in}
use Rattle.piece.specs.Pieces.{Pieces}
use Rattle.late.proofs.Cycles.{Filling}
use Rattle.late.proofs.cycle.fill.Given as goal

abbrev pub invariant-loop-at : goal.invariant-loop-at
invariant-loop-at l = Filling (works_in l.short) l.initial.least.n l.least.n l.at l.floors × Pieces (works_in l.short) l.pieces
