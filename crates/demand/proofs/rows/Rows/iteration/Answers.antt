-- `Rows::iteration` meets its contract. The loop's invariant: the sum over the actors passed.
use borrow.Author.Rules.{rules}
use mathlib.Core.Path.{◌∙◌}
use Rattle.sdf.specs.Sum.{sum_to}
use Rattle.demand.proofs.Row.{all_actors}
use Rattle.demand.proofs.Costs.{iteration_added, iteration_whole}
use Rattle.demand.proofs.rows.Rows.iteration.Goals as goal

pub loop-actor-init : goal.loop-actor-init
unfolding sum_to
loop-actor-init c = search rules

pub plus-sum-requires : goal.plus-sum-requires
plus-sum-requires c =
    (iteration_added c.args.self.now.lent c.requires c.actors_of-actor-items.ensures c.loop-actor-test.true
    c.loop-actor.invariant c.actor_time.ensures).fits

pub loop-actor-preserved : goal.loop-actor-preserved
loop-actor-preserved c =
    c.plus-sum.ensures ∙ (iteration_added c.args.self.now.lent c.requires c.actors_of-actor-items.ensures c.loop-actor-test.true
    c.loop-actor.invariant c.actor_time.ensures).sum

pub returns : goal.returns
returns c =
    let l = c.args.self.now.lent in
    let all = all_actors l c.requires c.actors_of-actor-items.ensures c.loop-actor-test.false c.loop-actor.auto.actor-index-end in
    iteration_whole _ all c.loop-actor.invariant
