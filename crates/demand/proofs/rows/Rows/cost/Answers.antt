-- `Rows::cost` meets its contract. The loop's invariant: the sum over the actors passed.
use borrow.Author.Rules.{rules}
use mathlib.Core.Path.{◌∙◌}
use Rattle.sdf.specs.Sum.{sum_to}
use Rattle.demand.proofs.Row.{all_actors}
use Rattle.demand.proofs.Costs.{cost_added, cost_whole}
use Rattle.demand.proofs.rows.Rows.cost.Goals as goal

pub loop-actor-init : goal.loop-actor-init
unfolding sum_to
loop-actor-init c = search rules

pub plus-sum-requires : goal.plus-sum-requires
plus-sum-requires c =
    (cost_added c.args.self.now.lent c.requires.0 c.actors_of-actor-items.ensures c.loop-actor-test.true c.requires.1
    c.loop-actor.invariant c.actor_cost.ensures).fits

pub loop-actor-preserved : goal.loop-actor-preserved
loop-actor-preserved c =
    c.plus-sum.ensures ∙ (cost_added c.args.self.now.lent c.requires.0 c.actors_of-actor-items.ensures c.loop-actor-test.true
    c.requires.1 c.loop-actor.invariant c.actor_cost.ensures).sum

pub returns : goal.returns
returns c =
    let l = c.args.self.now.lent in
    let all = all_actors l c.requires.0 c.actors_of-actor-items.ensures c.loop-actor-test.false c.loop-actor.auto.actor-index-end in
    cost_whole _ all _ c.loop-actor.invariant
