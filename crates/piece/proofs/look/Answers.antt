-- `piece::look` meets its contract. The loop's invariant: the demand of the graphs passed.
use borrow.Author.Rules.{rules}
use mathlib.Core.Path.{◌∙◌, refl, ap}
use native.Mathlib.Omega.{arith}
use Rattle.sdf.specs.Sum.{sum_to}
use Rattle.edf.specs.Demand.{demand}
use Rattle.demand.proofs.Costs.{demand_added}
use Rattle.piece.proofs.look.Goals as goal

pub loop-i-init : goal.loop-i-init
unfolding sum_to
loop-i-init c =
    search rules

pub plus-sum-requires : goal.plus-sum-requires
plus-sum-requires c =
    (demand_added c.args.rows.now.lent c.requires.0 (search rules) c.loop-i.invariant.0 refl c.graph_look.ensures.0).fits

pub loop-i-preserved : goal.loop-i-preserved
loop-i-preserved c =
    let a = demand_added c.args.rows.now.lent c.requires.0 (search rules) c.loop-i.invariant.0 refl c.graph_look.ensures.0 in
    (c.plus-sum.ensures ∙ a.sum, c.graph_look.ensures.1)

pub returns : goal.returns
unfolding demand
returns c =
    (c.loop-i.invariant.0 ∙ ap (sum_to _) (omega arith), c.loop-i.invariant.1)
