-- `frame::frame_load` meets its contract. The loop's invariant: the load of the graphs passed.
use borrow.Author.Rules.{rules}
use mathlib.Core.Path.{◌∙◌, ap}
use native.Mathlib.Omega.{arith}
use Rattle.sdf.specs.Sum.{sum_to}
use Rattle.edf.specs.Demand.{load}
use Rattle.demand.proofs.Costs.{load_added}
use Rattle.demand.proofs.frame.frame_load.Goals as goal

pub loop-i-init : goal.loop-i-init
unfolding sum_to
loop-i-init c = search rules

pub plus-sum-requires : goal.plus-sum-requires
plus-sum-requires c =
    let rows = c.args.weighted.now.rows.now in
    (load_added rows.lent c.requires (search rules) c.loop-i.invariant c.graph_load.ensures).fits

pub loop-i-preserved : goal.loop-i-preserved
loop-i-preserved c =
    let rows = c.args.weighted.now.rows.now in
    c.plus-sum.ensures ∙ (load_added rows.lent c.requires (search rules) c.loop-i.invariant c.graph_load.ensures).sum

pub returns : goal.returns
unfolding load
returns c = c.loop-i.invariant ∙ ap (sum_to _) (omega arith)
