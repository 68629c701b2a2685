-- `calls::repetition` meets its contract.
use borrow.Author.Rules.{rules}
use Rattle.demand.specs.declared.rows.Actor.{Actor}
use Rattle.shambrukit.specs.Calls.{repetition_numbers}
use Rattle.shambrukit.proofs.Answers.{fills_ready, prepared_same}
use Rattle.shambrukit.proofs.calls.repetition.Goals as goal

pub returns : goal.returns
returns g c =
    fills_ready _ _ (prepared_same g.F.Sheet.lines c.in_ok-ready.ready c.in_ok-form.ensures c.in_ok-ready.ensures) c.rows.ensures repetition_numbers _ _
    (c.column_of.ensures (λ (a : Actor). a.repetition.n) repetition_numbers (λ a n e. search rules) (λ j heads actors i row. row.repetition))
