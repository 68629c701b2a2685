-- `calls::demand` meets its contract.
use Rattle.shambrukit.proofs.Answers.{told_ready, prepared_same}
use Rattle.shambrukit.proofs.calls.demand.Goals as goal

pub returns : goal.returns
returns g c = told_ready _ _ (prepared_same g.F.Sheet.lines c.in_ok-ready.ready c.in_ok-form.ensures c.in_ok-ready.ensures) c.rows.ensures _ c.demand_of.ensures
