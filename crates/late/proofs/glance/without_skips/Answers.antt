-- `glance::without_skips` meets its contract. The loop's invariant: what the graphs passed ask as if nothing were skipped.
use mathlib.Core.Path.{◌≡◌, ◌∙◌, ap}
use native.Mathlib.Omega.{arith}
use lib.ListN.{length}
use Rattle.sdf.specs.Sum.{sum_to}
use Rattle.demand.specs.Rows.{works_in}
use Rattle.late.proofs.Glances.{whole_added, whole_above}
use Rattle.late.proofs.glance.without_skips.Goals as goal

pub loop-i-init : goal.loop-i-init
unfolding sum_to
loop-i-init c =
    c.of-sum.ensures

pub times-requires : goal.times-requires
times-requires c =
    (whole_added c.args.weighted.now c.requires (omega arith) c.loop-i.invariant c.blocks-in-loop-i.ensures).term

pub plus-sum-requires : goal.plus-sum-requires
plus-sum-requires c =
    rw c.times.ensures
    (whole_added c.args.weighted.now c.requires (omega arith) c.loop-i.invariant c.blocks-in-loop-i.ensures).fits

pub loop-i-preserved : goal.loop-i-preserved
loop-i-preserved c =
    rw (c.plus-sum.ensures, c.times.ensures)
    (whole_added c.args.weighted.now c.requires (omega arith) c.loop-i.invariant c.blocks-in-loop-i.ensures).sum

pub returns : goal.returns
returns c =
    let rows = c.args.weighted.now.rows.now in
    let all : c.loop-i.i ≡ length rows.heads.now = omega arith in
    whole_above (works_in rows) c.args.length.n (c.loop-i.invariant ∙ ap (sum_to _) all)
