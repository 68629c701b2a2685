-- `end::graph_surplus` meets its contract.
use native.Mathlib.Omega.{arith}
use Rattle.demand.specs.Rows.{works_in}
use Rattle.late.proofs.Ending.{share_high, surplus_fits}
use Rattle.late.proofs.end.graph_surplus.Goals as goal

pub overflow_mul-result : goal.overflow_mul-result
overflow_mul-result c =
    let (here, low) = c.requires in
    let weighted = c.args.weighted.now in
    let weight = weighted.weighed.weight c.args.i here in
    let high = share_high (works_in weighted.rows.now) c.args.frame.n low c.args.i here in
    record { fits = rw (c.count.ensures, c.count-period.ensures, c.count-2.ensures, weight) (omega (arith, high)) }

pub overflow_mul-result-2 : goal.overflow_mul-result-2
overflow_mul-result-2 c =
    let (here, low) = c.requires in
    let weighted = c.args.weighted.now in
    let weight = weighted.weighed.weight c.args.i here in
    let rows = weighted.rows.now in
    let fits = surplus_fits (works_in rows) c.args.frame.n rows.lent.bounded low c.args.i here in
    record {
      fits = rw (c.count.ensures, c.saturating_sub.ensures, c.count-period.ensures, c.count-deadline.ensures, c.count-2.ensures, weight) fits;
    }
