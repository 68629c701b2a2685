-- The number of an actor.
use Rattle.sheet.proofs.Parts.{time_stored}
use Rattle.forms.proofs.unpack.RefSliceU8Turn.time.Goals as goal

pub returns : goal.returns
returns c =
    time_stored c.args.self.now c.args.list.now c.requires.1 c.four.ensures
