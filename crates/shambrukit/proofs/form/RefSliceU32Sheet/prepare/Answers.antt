-- The lines 3 to 12 for an unpacked form.
use Rattle.shambrukit.proofs.Sheets.{prepared_list}
use Rattle.shambrukit.proofs.form.RefSliceU32Sheet.prepare.Goals as goal

pub returns : goal.returns
returns c = prepared_list _ _ _ _ c.list.ensures
