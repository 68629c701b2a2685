-- 01, answers 7 to 11 for one graph, in their order: what each answer says of the graph, and what then stands in the lent vectors.
use Rattle.std.specs.Prelude.{List, ℕ, Result, Ok, Err}
use Rattle.units.specs.Bounds.{max_repetition}
use Rattle.sdf.specs.Graph.{Graph, Reached}
use Rattle.sdf.specs.Order.{Lives, AtRest}
use Rattle.sdf.specs.Order.{Deadlock as Dead}
use Rattle.sdf.specs.Balance.{Balances, Once}
use Rattle.sdf.specs.Skip.{Skips}
use Rattle.graph.specs.declared.Fault.{Fault}
use Rattle.graph.specs.declared.Fault.TheVariants.{Reach, Balance, NotOnce, Deadlock, Restless}
use Rattle.repeat.specs.declared.repetition.Unnumbered.{Unnumbered}
use Rattle.repeat.specs.declared.repetition.Unnumbered.TheVariants.{Unbalanced, Unreached}
use Rattle.trial.specs.Flat.{vector}
use Rattle.repeat.specs.Repetition.{Repeats}

-- The answer where there are no repetition numbers.
abbrev pub fault_of : Unnumbered → Fault
fault_of Unreached = Reach
fault_of Unbalanced = Balance

abbrev pub Judged : Graph → Result (Unit {0}) Fault → List ℕ → List ℕ → Type 0
Judged g (Err Reach) q s = ¬ Reached g
Judged g (Err Balance) q s = Reached g × (¬ Balances g max_repetition)
Judged g (Err NotOnce) q s = Reached g × Repeats g q × (¬ Once g (vector q))
Judged g (Err Deadlock) q s = Reached g × Repeats g q × Once g (vector q) × Dead g (vector q)
Judged g (Err Restless) q s = Reached g × Repeats g q × Once g (vector q) × Lives g (vector q) × (¬ AtRest g)
Judged g (Ok _) q s = Reached g × Repeats g q × Once g (vector q) × Lives g (vector q) × AtRest g × Skips g (vector s)
