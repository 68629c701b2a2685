-- `sets::has` meets its contract.
use Prim.Native.Nat.{◌/◌, ◌^◌}
use lib.Bits.{and_mask}
use Rattle.sets.specs.Sets.{has}
use Rattle.sets.proofs.has.Goals as goal

pub returns : goal.returns
unfolding has
returns c =
    and_mask (c.args.set / 2 ^ c.args.v) 1
