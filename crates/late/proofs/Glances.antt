-- 01, answer 21: from which length on none is late, found without a look at every graph.
use mathlib.Core.Path.{◌≡◌}
use Prim.Native.Nat.{ℕ, ◌*◌, ◌^◌, ◌<◌, ◌≤◌}
use native.Mathlib.Nat.{le_refl, le_trans, lt_of_lt_of_le, lt_of_le_of_lt, mul_comm, mul-le-mul, mul-le-mul_right}
use native.Mathlib.Omega.{arith}
use lib.Dec.{lit<}
use lib.ListN.{length, get_or}
use Rattle.units.specs.Bounds.{engine_actors, max_repetition, max_ticks, max_time}
use Rattle.sdf.specs.Sum.{sum_to}
use Rattle.sdf.proofs.Sum.{sum_bound, sum_mono}
use Rattle.edf.specs.Arrivals.{due}
use Rattle.edf.specs.Bounds.{AllBounded}
use Rattle.edf.specs.Demand.{Works, blocks, demand, iteration}
use Rattle.edf.proofs.Blocks.{due_at_most}
use Rattle.edf.proofs.Demand.{demand_mono}
use Rattle.edf.proofs.Fits.{iteration_at_most}
use Rattle.demand.specs.declared.frame.Weighted.{Weighted}
use Rattle.demand.specs.declared.rows.Rows.{Rows}
use Rattle.demand.specs.Lent.{no_ticks}
use Rattle.demand.specs.Rows.{works_in, work_in}
use Rattle.demand.proofs.Sums.{Added, added}
use Rattle.late.specs.Cycle.{Eased, long_works, floor_at}
use Rattle.late.specs.Search.{Glanced, Leapt}
use Rattle.late.specs.declared.cycle.Table.{Table}
use Rattle.late.proofs.Ending.{cost_under}

-- What graph i asks in length t as if nothing were skipped.
abbrev pub graph_whole : Works → ℕ → ℕ → ℕ
graph_whole ws t i = due (ws.work i).period (ws.work i).deadline t * iteration (ws.work i)

-- The sum of that fits, after each graph.
fits_whole_to : {ws : Works} → AllBounded ws → {t n : ℕ} → t ≤ max_ticks → n ≤ ws.graphs → sum_to (graph_whole ws t) n < 2 ^ 64
unfolding iteration
fits_whole_to {ws} g {t} {n} l k = lt_of_le_of_lt (le_trans (sum_bound (graph_whole ws t) n each (λ i m.
    let w = ws.work i in
    let b = g.work i (lt_of_lt_of_le m k) in
    mul-le-mul (le_trans (due_at_most w.period w.deadline t b.deadline_low) l) (iteration_at_most b (le_refl w.actors))))
    (mul-le-mul_right each (le_trans k g.graphs))) (lit< tt)
  where
    each : ℕ
    each = max_ticks * (engine_actors * (max_time * max_repetition))

-- The weight of graph i × its blocks due is added.
pub whole_added : (g : Weighted) {t i x k : ℕ} → t ≤ max_ticks → i < length g.rows.now.heads.now
    → x ≡ sum_to (graph_whole (works_in g.rows.now) t) i
    → k ≡ due (work_in g.rows.now i).period (work_in g.rows.now i).deadline t
    → Added (graph_whole (works_in g.rows.now) t) x ((get_or g.weight.now i no_ticks).n * k) i
whole_added g {t} {i} {x} {k} h m e d =
    added (graph_whole (works_in g.rows.now) t) (fits_whole_to g.rows.now.lent.bounded h (omega arith)) e
    (rw (mul_comm (get_or g.weight.now i no_ticks).n k, d, g.weighed.weight i m))

-- Demand is at most the sum over all graphs.
pub whole_above : (ws : Works) (t : ℕ) {x : ℕ} → x ≡ sum_to (graph_whole ws t) ws.graphs → demand ws t ≤ x
unfolding demand blocks
whole_above ws t e = rw e (sum_mono _ _ ws.graphs (λ j l. cost_under (ws.work j) (blocks (ws.work j) t)))

-- With demand at t at most r, no length from r on to t is late.
pub glanced : (ws : Works) {t r : ℕ} → demand ws t ≤ r → Glanced ws t r
glanced ws {t} d _ u m n = omega (arith, demand_mono ws {t = u} {u = t} (omega arith))

-- Nor is one from `from` on, where the other graphs ask at t no more than the table says.
pub glanced_eased : {rows : Rows} {k : Table} → Eased rows k → {t from asks : ℕ} → asks ≡ demand (long_works rows k) t
    → asks ≤ floor_at k.cycle.n k.rest.n k.floors.now from → Glanced (works_in rows) t from
glanced_eased {rows} {k} e {t} {from} a h _ u m n =
    omega (arith, e.leaves from u m, demand_mono (long_works rows k) {t = u} {u = t} (omega arith))

-- Demand is a look.
pub leapt_demand : (ws : Works) {t r : ℕ} → r ≡ demand ws t → Leapt ws t r
leapt_demand ws e = (λ l. omega arith, glanced ws (omega arith))
