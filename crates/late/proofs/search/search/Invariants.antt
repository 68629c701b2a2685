-- `search::search` meets its contract. The loop's invariant: the lengths below low are within, and high is a late one or the end.
use Prim.Native.Nat.{◌-◌}
use Rattle.demand.specs.Rows.{works_in}
use Rattle.piece.specs.Pieces.{Pieces}
use Rattle.late.proofs.Searching.{Searching}
use Rattle.late.proofs.search.search.Given as goal

abbrev pub invariant-loop-first : goal.invariant-loop-first
invariant-loop-first g l = Pieces (works_in l.rows) l.pieces × g.G.Glance.serves l.glance l.rows
    × Searching (works_in l.rows) l.initial.high.n l.low.n l.high.n l.found

abbrev pub decreases-loop-first : goal.decreases-loop-first
decreases-loop-first g l = l.high.n - l.low.n
