-- `four`: a field of four bytes.
use mathlib.Core.Path.{◌∙◌}
use Rattle.sheet.proofs.Fields.{big_endian_four}
use Rattle.sheet.proofs.check.four.Goals as goal

pub returns : goal.returns
returns c = c.from_be_bytes.ensures ∙ big_endian_four c.args.s.now c.args.at
