-- The numbers of the fixed part.
use Rattle.sheet.proofs.Parts.{fixed_stored}
use Rattle.forms.proofs.unpack.RefSliceU8Turn.fixed.Goals as goal

pub returns : goal.returns
returns c =
    fixed_stored c.args.self.now c.args.list.now c.requires.1 c.four.ensures c.four-2.ensures
