-- `piece::first_length` meets its contract.
use Rattle.piece.proofs.Pieces.{first_sum, first_some}
use Rattle.piece.proofs.first_length.Goals as goal

pub returns : goal.returns
returns c =
    (first_some _ _ c.requires.0 c.if-k-eq0.false, first_sum _ _)
