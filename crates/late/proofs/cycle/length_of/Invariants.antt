-- `cycle::length_of` meets its contract. The loop's invariant: the multiple so far is positive and within the longest cycle.
use Prim.Native.Nat.{◌<◌, ◌≤◌}
use Rattle.late.specs.Cycle.{max_cycle}
use Rattle.late.proofs.cycle.length_of.Given as goal

abbrev pub invariant-loop : goal.invariant-loop
invariant-loop l = (0 < l.so_far.n) × (l.so_far.n ≤ max_cycle)
