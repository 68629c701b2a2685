-- `tasks::count` meets its contract. The loop's invariant: the numbers of the tasks of the actors passed are counted.
use borrow.Author.Rules.{rules}
use Rattle.edf.specs.Tasks.{tasks_to, task_numbers}
use Rattle.demand.proofs.Row.{graph_bounded, actor, row_actor, all_actors}
use Rattle.demand.proofs.TaskLists.{counted, counted_whole}
use Rattle.demand.proofs.tasks.count.Goals as goal

pub loop-actor-init : goal.loop-actor-init
unfolding tasks_to task_numbers
loop-actor-init c = search rules

pub overflow_add-n : goal.overflow_add-n
overflow_add-n c =
    let l = c.args.rows.now.lent in
    let e = c.actors_of-actor-items.ensures in
    let m = c.loop-actor-test.true in
    let k = rw (row_actor l c.requires e m _) at c.actor_count-n.ensures in
    record { fits = (counted (graph_bounded l c.requires) c.loop-actor.invariant (actor l c.requires e m) k).0 }

pub loop-actor-preserved : goal.loop-actor-preserved
loop-actor-preserved c =
    let l = c.args.rows.now.lent in
    let e = c.actors_of-actor-items.ensures in
    let m = c.loop-actor-test.true in
    let k = rw (row_actor l c.requires e m _) at c.actor_count-n.ensures in
    (counted (graph_bounded l c.requires) c.loop-actor.invariant (actor l c.requires e m) k).1

pub returns : goal.returns
returns c =
    let l = c.args.rows.now.lent in
    let all = all_actors l c.requires c.actors_of-actor-items.ensures c.loop-actor-test.false c.loop-actor.auto.actor-index-end in
    counted_whole (graph_bounded l c.requires) c.loop-actor.invariant all
