-- `grow` gives numbers to all that the input reaches. The invariant: those known have one, and those to do are whom they lead to.
use mathlib.Core.Path.{◌≡◌, sym, subst}
use Prim.Native.Nat.{ℕ, ◌+◌, ◌*◌, ◌<◌, ◌≤◌}
use native.Mathlib.Nat.{mul-le-mul, le_refl}
use native.Mathlib.Omega.{arith}
use lib.ListN.{get_or, length-set}
use Rattle.sets.proofs.Decided.{decided_no}
use Rattle.trial.specs.Flat.{vector}
use Rattle.trial.specs.Net.{net_graph}
use Rattle.repeat.specs.Words.{Joins}
use Rattle.repeat.proofs.Drawing.{words_of}
use Rattle.repeat.proofs.Growth.{growing_start, growing_actor, growing_some, growing_joins, growing_turn, growing_unreached}
use Rattle.repeat.proofs.repetition.grow.Goals as goal
use Rattle.repeat.proofs.repetition.grow.Goals.{After-least-head, After-least-tail}

-- Who is next is an actor.
actor : (c : After-least-head) → c.least-head.result < c.args.chart.now.net.now.actors
actor c = growing_actor c.args.chart.now.net.now.drawn.sound (words_of c.args.chart.now.words) c.loop-todo.invariant c.least-head.result c.least-head.ensures.1

-- A channel leads there from somebody known.
joins : (c : After-least-tail) → let h = c.least-head.result in let t = c.least-tail.result in let q = vector c.loop-todo.q in
    (t < c.args.chart.now.net.now.actors) × Joins (net_graph c.args.chart.now.net.now) (get_or c.args.chart.now.between.now (c.args.chart.now.net.now.actors * t + h) 0) t h × (0 < q t) × (q h ≡ 0)
joins c = growing_joins c.args.chart.now.net.now.drawn.sound (words_of c.args.chart.now.words) c.loop-todo.invariant c.args.chart.now.between.now c.args.chart.now.channels c.least-head.result c.least-tail.result c.common.result c.least-head.ensures.1 c.common.ensures.0 c.least-tail.ensures.1

pub loop-todo-init : goal.loop-todo-init
loop-todo-init c = growing_start c.clear.new.words c.args.chart.now.net.now.drawn.sound (omega (arith, c.clear.auto.words, c.requires.0, c.args.chart.now.net.now.drawn.sound.input)) c.clear.ensures c.only-known.ensures c.minus-todo.ensures.0

pub least-tail-requires : goal.least-tail-requires
least-tail-requires c = growing_some c.args.chart.now.net.now.drawn.sound (words_of c.args.chart.now.words) c.loop-todo.invariant c.least-head.result c.common.result c.least-head.ensures.1 c.common.ensures.0

-- The pair has a place among the pairs.
pub bounds-chart-net : goal.bounds-chart-net
bounds-chart-net c =
    let k = goal.at.bounds-chart-net c in
    let n = c.args.chart.now.net.now.actors in
    let row : n * (c.least-tail.result + 1) ≤ n * n = mul-le-mul (le_refl n) (omega (arith, (joins k.After-least-tail).0)) in
    omega (arith, row, actor k.After-least-head, c.requires.1)

pub bounds-neighbours-head-in-loop-todo : goal.bounds-neighbours-head-in-loop-todo
bounds-neighbours-head-in-loop-todo c =
    let k = goal.at.bounds-neighbours-head-in-loop-todo c in
    omega (arith, actor k.After-least-head, (words_of c.args.chart.now.words).room)

pub extend-requires : goal.extend-requires
extend-requires c =
    let j = joins (goal.at.extend-requires c).After-least-tail in
    let q = vector c.loop-todo.q in
    record {
      drawn = (omega (arith, c.loop-todo.auto.q, length-set c.clear.new.words c.args.chart.now.net.now.input 1, c.clear.auto.words, c.requires.0), c.loop-todo.invariant.grown, j.1.0);
      nonzero = (subst (λ (v : ℕ). 0 < q v) (sym j.1.1) j.2, subst (λ (v : ℕ). q v ≡ 0) (sym j.1.2) j.3);
    }

pub loop-todo-preserved : goal.loop-todo-preserved
loop-todo-preserved c =
    let j = joins (goal.at.loop-todo-preserved c).After-least-tail in
    growing_turn c.args.chart.now.net.now.drawn.sound (words_of c.args.chart.now.words) c.loop-todo.invariant c.joined.result c.least-head.ensures.1 j.1.2 c.in_ok-extend.ensures c.with-known.ensures c.joined.ensures c.minus-todo-in-loop-todo.ensures.0

pub returns-then-not-covers : goal.returns-then-not-covers
returns-then-not-covers c = growing_unreached c.args.chart.now.net.now.drawn.sound (words_of c.args.chart.now.words) c.loop-todo.invariant c.loop-todo-test.false (decided_no _ c.covers.result c.if-not-covers.true c.covers.ensures)
