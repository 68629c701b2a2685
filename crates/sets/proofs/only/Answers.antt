-- `sets::only` meets its contract.
use native.Mathlib.Omega.{arith}
use Rattle.sets.proofs.Bits.{put_only}
use Rattle.sets.proofs.only.Goals as goal

pub returns : goal.returns
returns c =
    put_only c.args.v (omega arith)
