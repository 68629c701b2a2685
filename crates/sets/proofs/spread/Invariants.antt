-- `sets::spread` meets its contract.
use Prim.Native.Nat.{◌+◌, ◌-◌, ◌*◌, ◌^◌}
use Rattle.sets.proofs.Spreads.{Asking}
use Rattle.sets.proofs.spread.Given as goal

abbrev pub invariant-loop-todo : goal.invariant-loop-todo
invariant-loop-todo g l = Asking (goal.F-post g l.set_of) l.start l.n l.met l.todo

abbrev pub decreases-loop-todo : goal.decreases-loop-todo
decreases-loop-todo g l = (2 ^ 64 - l.met) * 2 ^ 64 + l.todo
