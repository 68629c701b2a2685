-- `tasks::list` meets its contract. The loop's invariant: the numbers of the tasks of the actors passed stand in the first places.
use Rattle.demand.specs.Rows.{work_in}
use Rattle.demand.proofs.TaskLists.{Listing}
use Rattle.demand.proofs.tasks.list.Given as goal

abbrev pub invariant-loop-actor : goal.invariant-loop-actor
invariant-loop-actor l = Listing (work_in l.rows l.i) l.initial.out l.out l.to l.actor-index
