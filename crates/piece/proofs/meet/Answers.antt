-- `piece::meet` meets its contract.
use Rattle.piece.proofs.Pieces.{pieces_stored}
use Rattle.piece.proofs.meet.Goals as goal

pub returns : goal.returns
returns c =
    let s = c.requires in
    pieces_stored c.straight.result s.2 s.0 (c.args.rows.now.lent.bounded.work _ s.0).period_low c.straight.ensures
