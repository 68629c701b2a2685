-- `frame::frame` meets its contract. The loop's invariant: `so_far` is the frame of the periods passed.
use lib.ListN.{length, get_or}
use Rattle.demand.specs.Lent.{no_head}
use Rattle.demand.proofs.Multiples.{Frames}
use Rattle.demand.proofs.frame.frame.Given as goal

abbrev pub invariant-loop-head : goal.invariant-loop-head
invariant-loop-head l = Frames (length l.heads) (λ k. (get_or l.heads k no_head).period.n) l.so_far.n l.head-index
