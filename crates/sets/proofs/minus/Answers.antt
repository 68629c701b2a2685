-- `sets::minus` meets its contract.
use native.Mathlib.Omega.{arith}
use Prim.Native.Nat.{◌-◌, ◌^◌}
use lib.Bits.{and_le_l}
use Rattle.sets.proofs.Bits.{has_minus}
use Rattle.sets.proofs.minus.Goals as goal

pub returns : goal.returns
returns c =
    (λ v. has_minus c.args.a c.args.b v (omega arith) (omega arith), and_le_l c.args.a (2 ^ 64 - 1 - c.args.b))
