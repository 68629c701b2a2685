-- `search::settle` meets its contract. The loop's invariant: no length from e on is late, and each look took off a length at least.
use Prim.Native.Nat.{◌+◌, ◌≤◌}
use Rattle.demand.specs.Rows.{works_in}
use Rattle.piece.specs.Pieces.{Pieces}
use Rattle.late.specs.Search.{WithinFrom}
use Rattle.late.proofs.search.settle.Given as goal

abbrev pub invariant-loop-e : goal.invariant-loop-e
invariant-loop-e g l = Pieces (works_in l.rows) l.pieces × g.G.Glance.serves l.glance l.rows
    × WithinFrom (works_in l.rows) l.e l.initial.e × (l.e ≤ l.initial.e) × (l.e + l.looks ≤ l.initial.e + l.more)

abbrev pub decreases-loop-e : goal.decreases-loop-e
decreases-loop-e g l = l.e
