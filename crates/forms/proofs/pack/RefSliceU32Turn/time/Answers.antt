-- The bytes of an actor.
use Rattle.sheet.proofs.Parts.{time_packed}
use Rattle.forms.proofs.pack.RefSliceU32Turn.time.Goals as goal

pub returns : goal.returns
returns c =
    time_packed c.args.self.now c.args.out.now c.requires.1 c.four.ensures
