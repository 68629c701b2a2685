-- `sets::least` meets its contract.
use native.Mathlib.Omega.{arith}
use Rattle.sets.proofs.Bits.{has_below, has_trailing}
use Rattle.sets.proofs.least.Goals as goal

pub returns : goal.returns
returns c =
    let h = has_trailing 64 c.args.set (omega arith) (omega arith) in
    (has_below 64 (omega arith) h, h)
