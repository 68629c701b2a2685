-- `skips` meets its contract: with each turn an entry falls, or fewer actors are left to be looked at.
use native.Mathlib.Omega.{arith}
use Rattle.sets.proofs.Decided.{decided_yes}
use Rattle.trial.specs.Flat.{vector}
use Rattle.trial.specs.Net.{net_graph}
use Rattle.graph.specs.Skip.{Falling}
use Rattle.graph.proofs.Lowering.{falling_start, watched_start, zero_skips, Looks, settling_start, settling_turn, settling_less, settling_end}
use Rattle.graph.proofs.skip.skips.Goals as goal
use Rattle.graph.proofs.skip.skips.Goals.{After-start, After-joined-todo}

falling : (c : After-start) → Falling (net_graph c.args.chart.now.net.now) c.args.zero (vector c.start.new.s)
falling c = let p = c.requires in falling_start _ _ _ _ c.args.chart.now.net.now.drawn p.drawn.3 c.start.ensures p.drawn.0 p.unskipped.0

looks : (c : After-joined-todo) → Looks (net_graph c.args.chart.now.net.now) c.args.zero c.greatest-h.result c.loop-todo.todo c.without.result c.lower-fell.result c.joined-todo.result c.loop-todo.s c.lower-fell.new.s
looks c = record { one = c.greatest-h.ensures.1; off = c.without.ensures; lowered = c.lower-fell.ensures; rest = c.joined-todo.ensures }

pub returns-then-covers : goal.returns-then-covers
returns-then-covers c =
    zero_skips c.args.chart.now.net.now.drawn (falling (goal.at.returns-then-covers c).After-start) (decided_yes _ c.covers.result c.if-covers.true c.covers.ensures)

pub loop-todo-init : goal.loop-todo-init
loop-todo-init c =
    let d = c.args.chart.now.net.now.drawn in
    settling_start d (falling (goal.at.loop-todo-init c).After-start) (watched_start _ _ _ _ d c.requires.drawn.3 c.start.ensures) c.entries-todo.ensures

pub loop-todo-smaller : goal.loop-todo-smaller
loop-todo-smaller c =
    settling_less c.loop-todo.invariant (looks (goal.at.loop-todo-smaller c).After-joined-todo) (omega arith)

pub loop-todo-preserved : goal.loop-todo-preserved
loop-todo-preserved c =
    settling_turn c.loop-todo.invariant (looks (goal.at.loop-todo-preserved c).After-joined-todo)

pub returns : goal.returns
returns c =
    settling_end c.loop-todo.invariant c.loop-todo-test.false
