-- `piece::step_down` meets its contract.
use borrow.Author.Rules.{rules}
use Rattle.piece.proofs.Pieces.{stepped, step_stored}
use Rattle.piece.proofs.step_down.Goals as goal

pub overflow_sub-pieces : goal.overflow_sub-pieces
overflow_sub-pieces c =
    let s = c.requires in (stepped _ s.1 s.0 (search rules) c.if-from-known.false).less

pub returns : goal.returns
returns c =
    let s = c.requires in
    let r = step_stored s.1 s.0 (stepped _ s.1 s.0 (search rules) c.if-from-known.false) c.if-t-from.false c.if-to-t.false in
    (r.0, λ _. r.1)
