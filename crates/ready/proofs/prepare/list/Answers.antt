-- `prepare::list` meets its contract: answers 3 to 12 for the unpacked form, and the numbers of every graph in their places.
use mathlib.Core.Path.{sym, ◌∙◌}
use native.Mathlib.Omega.{arith}
use Rattle.std.proofs.lemmas.Result.{err_from_is_err_and}
use Rattle.ready.proofs.Readying.{prepares_walk, prepares_ready, prepares_frame}
use Rattle.ready.proofs.prepare.list.Goals as goal

pub returns-in_err-walk : goal.returns-in_err-walk
returns-in_err-walk c =
    let p = err_from_is_err_and c.from_residual-in_err-walk.result c.from_residual-in_err-walk.ensures.1 in
    rw (p.1, p.2) (prepares_walk _ _ (sym c.list.ensures ∙ c.in_ok-list.was) c.in_err-walk.ensures)

pub returns-in-Some : goal.returns-in-Some
returns-in-Some c =
    prepares_ready _ (sym c.list.ensures ∙ c.in_ok-list.was) (omega arith) c.in_ok-walk.ensures _ c.in-Some.ensures

pub returns-in-None : goal.returns-in-None
returns-in-None c =
    prepares_frame _ (sym c.list.ensures ∙ c.in_ok-list.was) (omega arith) c.in_ok-walk.ensures c.in-None.ensures
