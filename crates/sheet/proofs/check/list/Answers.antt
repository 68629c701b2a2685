-- `check::list`: graph count, then the first walk. An empty list has count 0.
use mathlib.Core.Path.{◌≡◌, sym, ◌∙◌}
use native.Mathlib.Omega.{arith}
use lib.ListN.{length, get_or-eq_default}
use borrow.Author.Tests.{eqb-true}
use Rattle.sheet.specs.Layout.{in_numbers}
use Rattle.sheet.specs.Check.{check_list}
use Rattle.sheet.proofs.Walk.{part_is_drop, graphs_none}
use Rattle.sheet.proofs.check.list.Goals as goal

pub returns-then-is_empty : goal.returns-then-is_empty
unfolding check_list
returns-then-is_empty c =
    let none : length c.args.l.now ≡ 0 = eqb-true _ _ (sym c.is_empty.ensures ∙ c.if-is_empty.true) in
    sym (graphs_none in_numbers _ _ (omega (arith, get_or-eq_default c.args.l.now 0 {n = 0} (omega arith))))

pub returns : goal.returns
unfolding check_list
returns c =
    rw part_is_drop at c.graphs.ensures
