-- `copy` stores the five numbers of channel c in the place of channel d.
use native.Mathlib.Omega.{arith}
use Rattle.knot.proofs.Keeping.{copied}
use Rattle.knot.proofs.copy.Goals as goal

pub returns : goal.returns
returns c =
    let a = c.args in
    copied a.channels.now a.kept.now c.copy_from_slice.new.self a.c a.d _ _ (omega arith) (omega arith) c.requires.0 c.requires.1 c.copy_from_slice.ensures.after
