-- Answers 1 to 5 refuse only what the lines refuse.
use Rattle.std.proofs.lemmas.Result.{err_from_is_err_and}
use Rattle.shambrukit.proofs.Sheets.{sheet_refuses}
use Rattle.shambrukit.proofs.form.RefSliceU8Sheet.checked.Goals as goal

pub returns-in_err-sheet : goal.returns-in_err-sheet
returns-in_err-sheet c =
    let p = err_from_is_err_and c.from_residual.result c.from_residual.ensures.1 in
    rw (p.1, p.2) (sheet_refuses _ c.sheet.ensures c.in_err-sheet.was)
