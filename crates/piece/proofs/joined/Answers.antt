-- `piece::joined` meets its contract.
use Rattle.piece.proofs.Pieces.{joined_busy}
use Rattle.piece.proofs.joined.Goals as goal

pub returns : goal.returns
returns c =
    let q = c.count-repetition.ensures in
    let s = c.count-skip.ensures in
    rw (c.count-time.ensures, q, s)
    (joined_busy c.requires (rw (q, s) at c.if-k-repetition.false) (rw (c.div_ceil.ensures, q, s) at c.max.ensures))
