-- `prepare::walk` meets its contract: before each turn the graphs before graph k stand in their places, and those from it on decide.
use native.Mathlib.Omega.{arith}
use Rattle.std.proofs.lemmas.Result.{err_from_is_err_and}
use Rattle.ready.proofs.Places.{filled}
use Rattle.ready.proofs.Readying.{readying_start, walked, readying_no, readying_turn, readying_end}
use Rattle.ready.proofs.prepare.walk.Goals as goal

pub loop-k-init : goal.loop-k-init
loop-k-init c =
    readying_start c.args.n c.args.l.now c.args.heads.now c.args.actors.now c.requires.0

pub invariant_of-graph : goal.invariant_of-graph
invariant_of-graph c =
    let (p, _) = walked c.loop-k.invariant c.loop-k-test.true in
    record { counts = p.counts; whole = p.whole }

pub returns-in_err-numbers : goal.returns-in_err-numbers
returns-in_err-numbers c =
    let p = err_from_is_err_and c.from_residual.result c.from_residual.ensures.1 in
    rw (p.1, p.2) (readying_no c.loop-k.invariant c.loop-k-test.true _ c.in_err-numbers.ensures)

pub loop-k-preserved : goal.loop-k-preserved
loop-k-preserved c =
    let (p, _) = walked c.loop-k.invariant c.loop-k-test.true in
    let met = c.in_ok-numbers.ensures in
    rw c.behind-rest.ensures
    (readying_turn c.loop-k.invariant c.loop-k-test.true c.requires.1 (omega arith) c.row.auto.actors met
    (filled p.counts p.whole met (omega arith) (omega arith) c.head.ensures c.row.ensures))

pub returns : goal.returns
returns c =
    readying_end c.loop-k.invariant (omega arith)
