-- `sets::all` meets its contract.
use native.Mathlib.Omega.{arith}
use Rattle.sets.proofs.Bits.{all_holds}
use Rattle.sets.proofs.all.Goals as goal

pub returns : goal.returns
returns c =
    all_holds c.args.n (omega arith)
