-- The lines 1 to 12 for a byte string: the refusal of answers 1 to 5, or what the lines leave of its unpacked form.
use mathlib.Core.Path.{refl, sym}
use lib.Seq.{length-take-le}
use Rattle.std.proofs.lemmas.Result.{err_from_is_err_and}
use Rattle.shambrukit.proofs.Sheets.{unpack_refuses, unpack_writes, prepared_sheet}
use Rattle.shambrukit.proofs.form.RefSliceU8Sheet.prepare.Goals as goal

pub returns-in_err-n : goal.returns-in_err-n
returns-in_err-n c =
    let p = err_from_is_err_and c.from_residual.result c.from_residual.ensures.1 in
    rw (p.1, p.2) (unpack_refuses _ refl c.sheet.ensures.answer c.in_err-n.was)

pub slice_bounds-numbers-end : goal.slice_bounds-numbers-end
slice_bounds-numbers-end c =
    (unpack_writes _ _ refl c.sheet.ensures.answer c.sheet.ensures.memory c.in_ok-n.was).there

pub slice_bounds-list-end : goal.slice_bounds-list-end
slice_bounds-list-end c =
    sym (length-take-le _ _ (unpack_writes _ _ refl c.sheet.ensures.answer c.sheet.ensures.memory c.in_ok-n.was).there)

pub returns : goal.returns
returns c =
    prepared_sheet _ _ _ (unpack_writes _ _ refl c.sheet.ensures.answer c.sheet.ensures.memory c.in_ok-n.was) c.list.ensures
