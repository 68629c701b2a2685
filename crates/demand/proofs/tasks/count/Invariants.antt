-- `tasks::count` meets its contract. The loop's invariant: the numbers of the tasks of the actors passed are counted.
use mathlib.Core.Path.{◌≡◌}
use lib.ListN.{length}
use Rattle.demand.specs.Rows.{work_in}
use Rattle.demand.proofs.TaskLists.{numbers_to}
use Rattle.demand.proofs.tasks.count.Given as goal

abbrev pub invariant-loop-actor : goal.invariant-loop-actor
invariant-loop-actor l = l.n ≡ length (numbers_to (work_in l.rows l.i) l.actor-index)
