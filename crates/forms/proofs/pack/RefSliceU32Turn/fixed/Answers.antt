-- The bytes of the fixed part.
use Rattle.sheet.proofs.Parts.{fixed_packed}
use Rattle.forms.proofs.pack.RefSliceU32Turn.fixed.Goals as goal

pub returns : goal.returns
returns c =
    fixed_packed c.args.self.now c.args.out.now c.requires.1 c.four.ensures c.four-2.ensures
