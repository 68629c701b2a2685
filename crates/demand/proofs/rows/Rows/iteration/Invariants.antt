-- `Rows::iteration` meets its contract. The loop's invariant: the sum over the actors passed.
use Rattle.std.proofs.Common.{◌≡◌}
use Rattle.sdf.specs.Sum.{sum_to}
use Rattle.demand.specs.Rows.{work_in}
use Rattle.demand.proofs.Costs.{actor_time}
use Rattle.demand.proofs.rows.Rows.iteration.Given as goal

abbrev pub invariant-loop-actor : goal.invariant-loop-actor
invariant-loop-actor l = l.sum.n ≡ sum_to (actor_time (work_in l.self l.i)) l.actor-index
