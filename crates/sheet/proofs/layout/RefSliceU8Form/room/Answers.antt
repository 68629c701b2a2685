-- A graph is 12 bytes, 4 for each actor and 8 for each channel.
use mathlib.Core.Path.{sym}
use Rattle.sheet.proofs.GraphLayout.{layout_bytes}
use Rattle.sheet.proofs.layout.RefSliceU8Form.room.Goals as goal

pub returns : goal.returns
returns c =
    sym (layout_bytes c.args.actors c.args.channels)
