-- `cycle::split` meets its contract. The loop's invariant: the graphs passed are in the parts.
use Rattle.late.specs.Cycle.{Parted}
use Rattle.late.proofs.cycle.split.Given as goal

abbrev pub invariant-loop-i : goal.invariant-loop-i
invariant-loop-i l = Parted l.cycle.n l.i l.rows.heads.now l.short l.long
