-- The numbers of a channel.
use Rattle.sheet.proofs.Parts.{channel_stored}
use Rattle.forms.proofs.unpack.RefSliceU8Turn.channel.Goals as goal

pub returns : goal.returns
returns c =
    channel_stored c.args.self.now c.args.list.now c.requires.1 c.two.ensures.0 c.two-2.ensures.0 c.two-3.ensures.0
