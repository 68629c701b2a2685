-- `pack::two`: a field of two bytes.
use mathlib.Core.Path.{◌∙◌}
use native.Mathlib.Omega.{arith}
use Rattle.sheet.proofs.Parts.{two_bytes, field_stored}
use Rattle.forms.proofs.pack.two.Goals as goal

pub returns : goal.returns
returns c =
    field_stored 2 c.args.n c.args.at _ c.args.out.now c.requires (omega arith)
    (c.copy_from_slice.ensures.after ∙ rw c.to_be_bytes.ensures (two_bytes c.args.n))
