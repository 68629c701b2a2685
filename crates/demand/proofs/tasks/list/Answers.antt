-- `tasks::list` meets its contract. The loop's invariant: the numbers of the tasks of the actors passed stand in the first places.
use Rattle.edf.specs.Tasks.{tasks_to, task_numbers}
use Rattle.demand.specs.Lent.{no_actor}
use Rattle.demand.proofs.Row.{graph_bounded, actor, row_actor, all_actors}
use Rattle.demand.proofs.Writes.{wrote_none}
use Rattle.demand.proofs.TaskLists.{listing_asked, listing_turn, listing_end}
use Rattle.demand.proofs.tasks.list.Goals as goal

pub loop-actor-init : goal.loop-actor-init
unfolding tasks_to task_numbers
loop-actor-init c = wrote_none _

pub actor_tasks-to-requires : goal.actor_tasks-to-requires
actor_tasks-to-requires c =
    let l = c.args.rows.now.lent in
    let g = c.requires.0 in
    let e = c.actors_of-actor-items.ensures in
    let m = c.loop-actor-test.true in
    rw (row_actor l g e m no_actor) (listing_asked (graph_bounded l g) c.requires.1 c.loop-actor.invariant (actor l g e m))

pub loop-actor-preserved : goal.loop-actor-preserved
loop-actor-preserved c =
    let l = c.args.rows.now.lent in
    let g = c.requires.0 in
    let e = c.actors_of-actor-items.ensures in
    let m = c.loop-actor-test.true in
    listing_turn (graph_bounded l g) c.requires.1 c.loop-actor.invariant (actor l g e m)
    (rw (row_actor l g e m no_actor) at c.actor_tasks-to.ensures)

pub returns : goal.returns
returns c =
    let l = c.args.rows.now.lent in
    let all = all_actors l c.requires.0 c.actors_of-actor-items.ensures c.loop-actor-test.false c.loop-actor.auto.actor-index-end in
    listing_end (graph_bounded l c.requires.0) c.requires.1 c.loop-actor.invariant all
