-- `sets::spread` meets its contract.
use native.Mathlib.Omega.{arith}
use Rattle.sets.proofs.Spreads.{Asks, asking_start, asking_turn, asking_less, asking_end}
use Rattle.sets.proofs.spread.Given.{Over}
use Rattle.sets.proofs.spread.Goals as goal
use Rattle.sets.proofs.spread.Goals.{After-joined-met}

-- What one turn does: an actor goes out of those to ask, and whom it leads to comes in.
asks : (g : Over) (c : After-joined-met g) → Asks c.least-v.result c.set_of.result c.loop-todo.met c.loop-todo.todo c.without.result c.minus-fresh.result c.joined-met.result c.joined-todo.result
asks g c = record {
  one = c.least-v.ensures.1;
  off = c.without.ensures;
  news = c.minus-fresh.ensures.0;
  rest = c.joined-todo.ensures;
  all = c.joined-met.ensures;
}

pub loop-todo-init : goal.loop-todo-init
loop-todo-init g c =
    asking_start _ _ _ c.requires.1

pub loop-todo-smaller : goal.loop-todo-smaller
loop-todo-smaller g c =
    asking_less (asks g (goal.at.loop-todo-smaller g c).After-joined-met) (omega arith) (omega arith)

pub loop-todo-preserved : goal.loop-todo-preserved
loop-todo-preserved g c =
    let v = c.least-v.result in
    let s = c.loop-todo.invariant in
    asking_turn s (c.requires.3 v c.set_of.result (s.below v (s.waits v c.least-v.ensures.1)) c.set_of.ensures) c.set_of.ensures (asks g (goal.at.loop-todo-preserved g c).After-joined-met)

pub returns : goal.returns
returns g c =
    asking_end c.loop-todo.invariant (omega arith)
