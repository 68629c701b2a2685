-- `frame::multiple` meets its contract. The loop's invariant: no common multiple is below the k-th multiple of a.
use borrow.Author.Rules.{rules}
use native.Mathlib.Omega.{arith}
use Rattle.std.proofs.lemmas.Bool.{iff_false}
use Rattle.edf.proofs.Frame.{none_below_start}
use Rattle.demand.proofs.Multiples.{multiples_turn, multiples_found, multiples_past}
use Rattle.demand.proofs.frame.multiple.Goals as goal

pub loop-k-init : goal.loop-k-init
loop-k-init c k q u v = omega (arith, none_below_start _ _ k q u v)

pub returns-then-is_multiple_of : goal.returns-then-is_multiple_of
returns-then-is_multiple_of c =
    rw (c.of.ensures, ← c.count-step.ensures, ← c.count-by.ensures)
    (multiples_found _ _ _ c.loop-k.invariant (search rules) (search rules) c.loop-k-test.true (c.is_multiple_of.ensures.0 c.if-is_multiple_of.true))

pub loop-k-preserved : goal.loop-k-preserved
loop-k-preserved c = multiples_turn _ _ _ c.loop-k.invariant (iff_false c.is_multiple_of.ensures c.if-is_multiple_of.false)

pub returns-else-is_multiple_of : goal.returns-else-is_multiple_of
returns-else-is_multiple_of c =
    rw (← c.count-step.ensures, ← c.count-by.ensures)
    (multiples_past _ _ _ (multiples_turn _ _ _ c.loop-k.invariant (iff_false c.is_multiple_of.ensures c.if-is_multiple_of.false)) (search rules) (search rules))
