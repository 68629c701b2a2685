-- `grow` gives numbers to all that the input reaches. The invariant: those known have one, and those to do are whom they lead to.
use Prim.Native.Nat.{◌-◌, ◌^◌}
use Rattle.trial.specs.Net.{net_graph}
use Rattle.repeat.proofs.Growth.{Growing}
use Rattle.repeat.proofs.repetition.grow.Given as goal

abbrev pub invariant-loop-todo : goal.invariant-loop-todo
invariant-loop-todo l = Growing (net_graph l.net) l.neighbours l.known l.todo l.q

abbrev pub decreases-loop-todo : goal.decreases-loop-todo
decreases-loop-todo l = 2 ^ 64 - l.known
