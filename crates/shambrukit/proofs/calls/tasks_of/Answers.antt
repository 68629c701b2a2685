-- `calls::tasks_of` meets its contract: 15, 14, or the task list.
use mathlib.Core.Path.{◌≡◌}
use Prim.Native.Nat.{◌<◌}
use lib.ListN.{length}
use native.Mathlib.Omega.{arith}
use Rattle.edf.specs.Tasks.{tasks, task_numbers}
use Rattle.demand.specs.Rows.{work_in}
use Rattle.shambrukit.specs.Calls.{task_list}
use Rattle.shambrukit.proofs.Answers.{listed_room, listed_wrote, tasks_held}
use Rattle.shambrukit.proofs.calls.tasks_of.Goals as goal

pub returns-then-out-count : goal.returns-then-out-count
returns-then-out-count c =
    let a = c.args in
    let there : a.graph < length a.rows.now.heads.now = grind arith in
    let count : c.count-count.result ≡ length (task_numbers (tasks (work_in a.rows.now a.graph))) = grind arith in
    listed_room a.graph _ task_list there count (tasks_held a.graph there) c.if-out-count.true

pub returns : goal.returns
returns c =
    let a = c.args in
    let there : a.graph < length a.rows.now.heads.now = grind arith in
    let count : c.count-count.result ≡ length (task_numbers (tasks (work_in a.rows.now a.graph))) = grind arith in
    listed_wrote a.graph _ task_list there count (tasks_held a.graph there) c.if-out-count.false (grind arith)
