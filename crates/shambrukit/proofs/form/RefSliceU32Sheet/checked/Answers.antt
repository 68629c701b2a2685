-- Answers 3 to 5 refuse only what the lines refuse.
use Rattle.std.proofs.lemmas.Result.{err_from_is_err_and}
use Rattle.shambrukit.proofs.Sheets.{list_refuses}
use Rattle.shambrukit.proofs.form.RefSliceU32Sheet.checked.Goals as goal

pub returns-in_err-list : goal.returns-in_err-list
returns-in_err-list c =
    let p = err_from_is_err_and c.from_residual.result c.from_residual.ensures.1 in
    rw (p.1, p.2) (list_refuses _ c.list.ensures c.in_err-list.was)
