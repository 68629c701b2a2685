-- `sets::common` meets its contract.
use lib.Bits.{and_le_l}
use Rattle.sets.proofs.Bits.{has_and}
use Rattle.sets.proofs.common.Goals as goal

pub returns : goal.returns
returns c =
    (has_and c.args.a c.args.b, and_le_l c.args.a c.args.b)
