-- `end::end_of` meets its contract.
use native.Mathlib.Omega.{arith}
use Rattle.late.proofs.Ending.{end_least}
use Rattle.late.proofs.end.end_of.Goals as goal

pub returns : goal.returns
returns c =
    rw (c.of-2.ensures, c.min.ensures, c.count-l.ensures, c.count-f.ensures) (end_least (omega arith) (omega arith))
