-- `end::surplus_of` meets its contract. The loop's invariant: the sum over the graphs passed.
use mathlib.Core.Path.{refl}
use native.Mathlib.Omega.{arith}
use Rattle.sdf.specs.Sum.{sum_to}
use Rattle.demand.specs.Rows.{works_in}
use Rattle.late.proofs.Ending.{surplus_added}
use Rattle.late.proofs.end.surplus_of.Goals as goal

pub loop-i-init : goal.loop-i-init
unfolding sum_to
loop-i-init c = refl

pub overflow_add-sum : goal.overflow_add-sum
overflow_add-sum c =
    let rows = c.args.weighted.now.rows.now in
    record {
      fits = (surplus_added (works_in rows) c.args.frame.n rows.lent.bounded c.requires (omega arith) c.loop-i.invariant
          c.graph_surplus-sum.ensures).fits;
    }

pub loop-i-preserved : goal.loop-i-preserved
loop-i-preserved c =
    let rows = c.args.weighted.now.rows.now in
    (surplus_added (works_in rows) c.args.frame.n rows.lent.bounded c.requires (omega arith) c.loop-i.invariant
    c.graph_surplus-sum.ensures).sum
