-- `factor` gives the least factor: the loop goes up from 1 and keeps what k times the tokens leave.
use Prim.Native.Nat.{◌-◌}
use Rattle.repeat.proofs.Growth.{Factoring}
use Rattle.repeat.proofs.repetition.factor.Given as goal

abbrev pub invariant-loop-rest : goal.invariant-loop-rest
invariant-loop-rest l = Factoring l.m l.c l.k l.rest

abbrev pub decreases-loop-rest : goal.decreases-loop-rest
decreases-loop-rest l = l.c - l.k
