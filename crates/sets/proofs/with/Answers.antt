-- `sets::with` meets its contract.
use native.Mathlib.Omega.{arith}
use Rattle.sets.proofs.Bits.{put_flag}
use Rattle.sets.proofs.with.Goals as goal

pub returns : goal.returns
returns c =
    put_flag c.args.set c.args.v c.args.flag (omega arith)
