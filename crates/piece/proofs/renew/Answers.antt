-- `piece::renew` meets its contract.
use native.Mathlib.Nat.{le_refl, le_trans, le_of_eq, le-min, min-le_left, min-le_right}
use mathlib.Core.Path.{sym}
use Rattle.units.specs.Bounds.{max_ticks}
use Rattle.piece.proofs.Pieces.{blocks_few, piece_asks, level_one, level_none}
use Rattle.piece.proofs.renew.Goals as goal

pub meet-requires : goal.meet-requires
meet-requires c =
    let s = c.requires in
    (s.0, blocks_few (c.args.rows.now.lent.bounded.work _ s.0) s.1 c.count-k.ensures c.blocks-2.ensures, s.2)

pub hold-requires : goal.hold-requires
hold-requires c =
    let s = c.requires in
    let e = c.meet.ensures in
    let few = blocks_few (c.args.rows.now.lent.bounded.work _ s.0) s.1 c.count-k.ensures c.blocks-2.ensures in
    let least = c.min.ensures in
    (s.0, le_trans (le-min (le_trans e.1 e.2) (le_trans e.1 few)) (le_of_eq (sym least)), le_trans (le_of_eq least) (min-le_right _ max_ticks), le_refl _, le_trans e.1 e.2, level_none _ _ _ (e.0.piece _ s.0) c.if-piece-eq0.true (le_trans (le_of_eq least) (min-le_left _ max_ticks)), e.0)

pub hold-requires-else-piece-eq0 : goal.hold-requires-else-piece-eq0
hold-requires-else-piece-eq0 c =
    let s = c.requires in
    let e = c.meet.ensures in
    let few = blocks_few (c.args.rows.now.lent.bounded.work _ s.0) s.1 c.count-k.ensures c.blocks-2.ensures in
    (s.0, le_refl _, few, e.1, e.2, level_one _ (piece_asks _ _ _ (e.0.piece _ s.0) e.1 e.2), e.0)
