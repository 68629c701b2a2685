-- `frame::multiple` meets its contract. The loop's invariant: no common multiple is below the k-th multiple of a.
use Prim.Native.Nat.{◌*◌}
use Rattle.edf.proofs.Frame.{NoneBelow}
use Rattle.demand.proofs.frame.multiple.Given as goal

abbrev pub invariant-loop-k : goal.invariant-loop-k
invariant-loop-k l = NoneBelow l.step l.by (l.k * l.step)
