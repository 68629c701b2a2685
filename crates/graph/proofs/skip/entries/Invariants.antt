-- `entries` meets its contract. The invariant: who is below v and not in `set` has all its tails in `zero`.
use Rattle.graph.proofs.Lowering.{Entering}
use Rattle.graph.proofs.skip.entries.Given as goal

abbrev pub invariant-loop-v : goal.invariant-loop-v
invariant-loop-v l = Entering l.chart.neighbours.now l.zero l.v l.set
