-- The bytes of a channel.
use Rattle.sheet.proofs.Parts.{channel_packed}
use Rattle.forms.proofs.pack.RefSliceU32Turn.channel.Goals as goal

pub returns : goal.returns
returns c =
    channel_packed c.args.self.now c.args.out.now c.requires.1 c.two.ensures c.two-2.ensures c.two-3.ensures
