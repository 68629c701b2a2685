-- `sets::without` meets its contract.
use native.Mathlib.Omega.{arith}
use Rattle.sets.proofs.Bits.{put_without}
use Rattle.sets.proofs.without.Goals as goal

pub returns : goal.returns
returns c =
    put_without c.args.set c.args.v (omega arith) (omega arith)
