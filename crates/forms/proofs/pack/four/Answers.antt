-- `pack::four`: a field of four bytes.
use mathlib.Core.Path.{◌∙◌}
use native.Mathlib.Omega.{arith}
use Rattle.sheet.proofs.Parts.{four_bytes, field_stored}
use Rattle.forms.proofs.pack.four.Goals as goal

pub returns : goal.returns
returns c =
    field_stored 4 c.args.n c.args.at _ c.args.out.now c.requires (omega arith)
    (c.copy_from_slice.ensures.after ∙ rw c.to_be_bytes.ensures (four_bytes c.args.n))
