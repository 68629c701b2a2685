-- `two`: a field of two bytes.
use mathlib.Core.Path.{◌∙◌}
use Rattle.sheet.proofs.Fields.{big_endian_two}
use Rattle.sheet.proofs.check.two.Goals as goal

pub returns : goal.returns
returns c = (c.from_be_bytes.ensures ∙ big_endian_two c.args.s.now c.args.at, c.from_be_bytes.type_inv)
