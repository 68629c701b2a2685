-- `calls::judge` meets its contract.
use mathlib.Core.Path.{refl, subst}
use Rattle.ready.specs.Lines.{refused, ready}
use Rattle.shambrukit.specs.Verdict.{VerdictBy}
use Rattle.shambrukit.proofs.Answers.{prepared_same}
use Rattle.shambrukit.proofs.calls.judge.Goals as goal

pub returns-in-Err : goal.returns-in-Err
unfolding VerdictBy
returns-in-Err g c = (refused _, c.in-Err.ensures, refl)

pub returns-in-Err-prepare : goal.returns-in-Err-prepare
unfolding VerdictBy
returns-in-Err-prepare g c = (refused _, subst (λ f. g.F.Sheet.lines f (refused c.in-Err-prepare.r)) c.in-Ok.ensures c.in-Err-prepare.ensures, refl)

pub returns-in-Ok-prepare : goal.returns-in-Ok-prepare
unfolding VerdictBy
returns-in-Ok-prepare g c =
    let (js, lines, count, stands, framed) = prepared_same g.F.Sheet.lines c.in-Ok-prepare.ready c.in-Ok.ensures c.in-Ok-prepare.ensures in
    (ready js _, lines, c.verdict_of.ensures js (c.rows.ensures js count stands))
