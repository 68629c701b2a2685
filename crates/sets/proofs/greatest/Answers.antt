-- `sets::greatest` meets its contract.
use native.Mathlib.Omega.{arith}
use Rattle.sets.proofs.Bits.{has_leading}
use Rattle.sets.proofs.greatest.Goals as goal

pub returns : goal.returns
returns c =
    (omega arith, has_leading c.args.set (omega arith) (omega arith))
