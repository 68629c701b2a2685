-- `length::demand_at` meets its contract. The loop's invariant: the demand of the graphs passed.
use borrow.Author.Rules.{rules}
use mathlib.Core.Path.{◌∙◌, ap}
use native.Mathlib.Omega.{arith}
use Rattle.sdf.specs.Sum.{sum_to}
use Rattle.edf.specs.Demand.{demand}
use Rattle.demand.proofs.Costs.{due_asked, demand_added}
use Rattle.demand.proofs.length.demand_at.Goals as goal

pub loop-i-init : goal.loop-i-init
unfolding sum_to
loop-i-init c = search rules

pub cost-requires : goal.cost-requires
cost-requires c = (search rules, due_asked c.args.rows.now.lent c.requires (search rules) c.blocks-in-loop-i.ensures)

pub plus-sum-requires : goal.plus-sum-requires
plus-sum-requires c =
    (demand_added c.args.rows.now.lent c.requires (search rules) c.loop-i.invariant c.blocks-in-loop-i.ensures
    c.cost.ensures).fits

pub loop-i-preserved : goal.loop-i-preserved
loop-i-preserved c =
    c.plus-sum.ensures ∙ (demand_added c.args.rows.now.lent c.requires (search rules) c.loop-i.invariant
    c.blocks-in-loop-i.ensures c.cost.ensures).sum

pub returns : goal.returns
unfolding demand
returns c = c.loop-i.invariant ∙ ap (sum_to _) (omega arith)
