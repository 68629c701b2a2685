-- `calls::tasks` meets its contract.
use Rattle.shambrukit.specs.Calls.{task_list}
use Rattle.shambrukit.proofs.Answers.{fills_ready, prepared_same}
use Rattle.shambrukit.proofs.calls.tasks.Goals as goal

pub returns : goal.returns
returns g c = fills_ready _ _ (prepared_same g.F.Sheet.lines c.in_ok-ready.ready c.in_ok-form.ensures c.in_ok-ready.ensures) c.rows.ensures task_list _ _ c.tasks_of.ensures
