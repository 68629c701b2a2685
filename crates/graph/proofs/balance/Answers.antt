-- `balance` meets its contract: all reach the output, and the input all where it has numbers for all or is looked at for itself.
use Rattle.sets.proofs.Decided.{decided_no}
use Rattle.trial.specs.Net.{net_graph}
use Rattle.graph.proofs.Reaching.{reached_both}
use Rattle.graph.proofs.balance.Goals as goal

pub returns-then-not-to_output : goal.returns-then-not-to_output
returns-then-not-to_output c =
    λ h. decided_no _ c.to_output.result c.if-not-to_output.true c.to_output.ensures ((reached_both (net_graph c.args.chart.now.net.now)).0 h).1

pub returns-in-Err-Unreached : goal.returns-in-Err-Unreached
returns-in-Err-Unreached c =
    λ h. (rw c.in-Err-Unreached.field-0-is at c.in-Err-Unreached.ensures) ((reached_both (net_graph c.args.chart.now.net.now)).0 h).0

pub returns-in-Err-Unbalanced-2 : goal.returns-in-Err-Unbalanced-2
returns-in-Err-Unbalanced-2 c =
    λ h. decided_no _ c.from_input.result c.if-from_input.false c.from_input.ensures ((reached_both (net_graph c.args.chart.now.net.now)).0 h).0
