-- `sets::joined` meets its contract.
use Rattle.sets.proofs.Bits.{has_or}
use Rattle.sets.proofs.joined.Goals as goal

pub returns : goal.returns
returns c =
    has_or c.args.a c.args.b
