-- `piece::straight` meets its contract. The loop's invariant: the piece of the actors passed.
use Rattle.demand.specs.Lent.{no_actor}
use Rattle.demand.proofs.Row.{graph_bounded, actor, row_actor, all_actors}
use Rattle.piece.proofs.Pieces.{piece_start, piece_joins, piece_turn, piece_whole}
use Rattle.piece.proofs.straight.Goals as goal

pub loop-actor-init : goal.loop-actor-init
loop-actor-init c =
    piece_start _ c.requires.1

pub joined-p-requires : goal.joined-p-requires
joined-p-requires c =
    let l = c.args.rows.now.lent in
    let g = c.requires.0 in
    let e = c.actors_of-actor-items.ensures in
    let m = c.loop-actor-test.true in
    rw (row_actor l g e m no_actor)
    (piece_joins (graph_bounded l g) c.loop-actor.invariant (actor l g e m))

pub loop-actor-preserved : goal.loop-actor-preserved
loop-actor-preserved c =
    let l = c.args.rows.now.lent in
    let g = c.requires.0 in
    let e = c.actors_of-actor-items.ensures in
    let m = c.loop-actor-test.true in
    piece_turn (graph_bounded l g) c.loop-actor.invariant
    (rw (row_actor l g e m no_actor) at c.joined-p.ensures)

pub returns : goal.returns
returns c =
    let l = c.args.rows.now.lent in
    let g = c.requires.0 in
    let all = all_actors l g c.actors_of-actor-items.ensures c.loop-actor-test.false c.loop-actor.auto.actor-index-end in
    piece_whole (graph_bounded l g) c.loop-actor.invariant all
