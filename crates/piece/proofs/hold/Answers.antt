-- `piece::hold` meets its contract.
use native.Mathlib.Nat.{le_refl}
use Rattle.piece.proofs.Pieces.{level_span, stairs_piece, span_stored}
use Rattle.piece.proofs.hold.Goals as goal

pub returns : goal.returns
returns c =
    let s = c.requires in
    let g = c.args.rows.now.lent.bounded.work _ s.0 in
    let d = c.count-deadline.ensures in
    let p = c.count-period.ensures in
    let f = rw (p, d) at c.first_length.ensures in
    span_stored s.6 s.0 (level_span _ s.5 f.0 (rw (p, d) at c.first_length-2.ensures).0)
    (stairs_piece _ _ _ _ _ g.period_low (s.6.piece _ s.0) s.4 (s.5 _ (le_refl _) s.1) f c.max.ensures (rw (p, d) at c.first_length-3.ensures))
