-- `tasks::actor_tasks` meets its contract: one task is written, or two, the second behind the first.
use mathlib.Core.Path.{ap}
use native.Mathlib.Omega.{arith}
use lib.ListN.{length}
use Rattle.demand.specs.Written.{alone}
use Rattle.demand.proofs.Writes.{wrote_then, wrote_length}
use Rattle.demand.proofs.TaskLists.{some_task, one_task, two_tasks}
use Rattle.demand.proofs.tasks.actor_tasks.Goals as goal

pub task-next-requires : goal.task-next-requires
task-next-requires c =
    omega (arith, some_task (alone c.args.actor c.args.head) 0)

pub returns-then-b-eq0 : goal.returns-then-b-eq0
returns-then-b-eq0 c =
    let q = c.count-repetition.ensures in
    let s = c.count-skip.ensures in
    rw (one_task (alone c.args.actor c.args.head) 0 (rw (q, s) at c.if-b-eq0.true))
    (rw (c.count-time.ensures, q, s, c.count-period.ensures, c.count-deadline.ensures) at c.task-next.ensures)

pub task-requires : goal.task-requires
task-requires c =
    let two = two_tasks (alone c.args.actor c.args.head) 0 (rw (c.count-repetition.ensures, c.count-skip.ensures) at c.if-b-eq0.false) in
    let first = c.task-next.ensures in
    omega (arith, first.place, wrote_length first, ap length two)

pub returns : goal.returns
returns c =
    let q = c.count-repetition.ensures in
    let s = c.count-skip.ensures in
    rw (two_tasks (alone c.args.actor c.args.head) 0 (rw (q, s) at c.if-b-eq0.false))
    (rw (c.count-time.ensures, q, s, c.count-period.ensures, c.count-deadline.ensures) at (wrote_then c.task-next.ensures c.task.ensures))
