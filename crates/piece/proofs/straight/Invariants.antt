-- `piece::straight` meets its contract. The loop's invariant: the piece of the actors passed.
use Rattle.demand.specs.Rows.{work_in}
use Rattle.piece.proofs.Pieces.{PieceTo}
use Rattle.piece.proofs.straight.Given as goal

abbrev pub invariant-loop-actor : goal.invariant-loop-actor
invariant-loop-actor l = PieceTo (work_in l.rows l.i) l.actor-index l.k l.p
