-- `end::search_end` meets its contract.
use native.Mathlib.Omega.{arith}
use Rattle.demand.specs.Rows.{works_in}
use Rattle.late.proofs.Ending.{span_high, span_load, search_ends}
use Rattle.late.proofs.end.search_end.Goals as goal

pub busy_load-share-requires : goal.busy_load-share-requires
busy_load-share-requires c =
    let s = c.requires in
    (span_high c.busy-span.ensures s.0.positive s.1, s.2)

pub surplus_of-requires : goal.surplus_of-requires
surplus_of-requires c =
    let s = c.requires in
    let ws = works_in c.args.weighted.now.rows.now in
    let high = span_high c.busy-span.ensures s.0.positive s.1 in
    let fits = span_load ws c.busy-span.ensures s.0.positive s.2 s.3 c.busy_load-share.ensures in
    omega (arith, c.busy_load-share.ensures, high, fits)

pub end_of-requires : goal.end_of-requires
end_of-requires c =
    let s = c.requires in (
      c.busy-span.ensures.positive,
      span_high c.busy-span.ensures s.0.positive s.1,
      span_load (works_in c.args.weighted.now.rows.now) c.busy-span.ensures s.0.positive s.2 s.3 c.busy_load-share.ensures,
    )

pub returns : goal.returns
returns c =
    let s = c.requires in
    let ws = works_in c.args.weighted.now.rows.now in
    let high = span_high c.busy-span.ensures s.0.positive s.1 in
    let fits = span_load ws c.busy-span.ensures s.0.positive s.2 s.3 c.busy_load-share.ensures in
    search_ends ws c.busy-span.ensures high c.busy_load-share.ensures fits c.surplus_of.ensures c.end_of.ensures
