-- A graph is 6 numbers, one for each actor and 5 for each channel.
use mathlib.Core.Path.{sym}
use Rattle.sheet.proofs.GraphLayout.{layout_numbers}
use Rattle.sheet.proofs.layout.RefSliceU32Form.room.Goals as goal

pub returns : goal.returns
returns c =
    sym (layout_numbers c.args.actors c.args.channels)
