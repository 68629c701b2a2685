-- `end::busy` meets its contract. The loop's invariant: `so_far` is the frame of the periods passed that count.
use lib.ListN.{length}
use Rattle.demand.specs.Rows.{works_in}
use Rattle.demand.proofs.Multiples.{Frames}
use Rattle.late.specs.Search.{busy_period}
use Rattle.late.proofs.end.busy.Given as goal

abbrev pub invariant-loop-i : goal.invariant-loop-i
invariant-loop-i l = Frames (length l.weighted.rows.now.heads.now) (busy_period (works_in l.weighted.rows.now)) l.so_far.n l.i
