-- 01, Demand: a graph's cost and the time of its iteration, actor by actor; demand and frame load, graph by graph.
use mathlib.Core.Path.{◌≡◌, ◌∙◌, ap}
use mathlib.Core.List.{List}
use Prim.Native.Nat.{ℕ, ◌*◌, ◌-◌, ◌/◌, ◌^◌, ◌<◌, ◌≤◌}
use native.Mathlib.Nat.{mul_comm, div-le_self, le_trans}
use native.Mathlib.Omega.{arith}
use lib.ListN.{length, get_or, take, drop}
use Rattle.units.specs.Bounds.{max_outputs, max_ticks}
use Rattle.sdf.specs.Sum.{sum_to}
use Rattle.sdf.specs.Skip.{fewest}
use Rattle.edf.specs.Arrivals.{due}
use Rattle.edf.specs.Demand.{Work, Works, cost, iteration, blocks}
use Rattle.edf.proofs.Blocks.{due_at_most}
use Rattle.edf.proofs.Fits.{fits_cost_to, fits_iteration_to, fits_iterations, fits_demand_to, fits_load_to}
use Rattle.demand.specs.declared.rows.Head.{Head}
use Rattle.demand.specs.declared.rows.Actor.{Actor}
use Rattle.demand.specs.Lent.{no_actor, works_of, Lent}
use Rattle.demand.proofs.Row.{walked, graph_bounded, actor, row_actor}
use Rattle.demand.proofs.Sums.{Added, added}

-- What actor v asks for K blocks due.
abbrev pub actor_cost : Work → ℕ → ℕ → ℕ
actor_cost w K v = w.time v * (K * w.repetition v - w.skip v)

-- What actor v takes in an iteration.
abbrev pub actor_time : Work → ℕ → ℕ
actor_time w v = w.time v * w.repetition v

-- What graph i asks in length t.
abbrev pub graph_demand : Works → ℕ → ℕ → ℕ
graph_demand ws t i = cost (ws.work i) (blocks (ws.work i) t)

-- What graph i adds to the frame load.
abbrev pub graph_load : Works → ℕ → ℕ → ℕ
graph_load ws frame i = frame / (ws.work i).period * iteration (ws.work i)

-- What an actor of a row asks for K blocks due.
abbrev asked_by : ℕ → Actor → ℕ
asked_by K a = a.time.n * (K * a.repetition.n - a.skip.n)

-- What it takes in an iteration.
abbrev taken_by : Actor → ℕ
taken_by a = a.time.n * a.repetition.n

module _ {heads : List Head} {actors : List Actor} {room i : ℕ} (l : Lent heads actors room) (g : i < length heads)
    {xs : List Actor} (e : xs ≡ take (walked l g).actors (drop (room * i) actors)) {v : ℕ} (m : v < length xs) where
  -- The cost of actor v is added.
  pub cost_added : {K x y : ℕ} → K ≤ max_outputs → x ≡ sum_to (actor_cost (walked l g) K) v → y ≡ asked_by K (get_or xs v no_actor)
      → Added (actor_cost (walked l g) K) x y v
  unfolding fewest
  cost_added {K} k s d = added (actor_cost (walked l g) K) (fits_cost_to (graph_bounded l g) k (omega (arith, actor l g e m))) s
      (d ∙ ap (asked_by K) (row_actor l g e m no_actor))

  -- The time of actor v in an iteration is added.
  pub iteration_added : {x y : ℕ} → x ≡ sum_to (actor_time (walked l g)) v → y ≡ taken_by (get_or xs v no_actor)
      → Added (actor_time (walked l g)) x y v
  iteration_added s d = added (actor_time (walked l g)) (fits_iteration_to (graph_bounded l g) (omega (arith, actor l g e m))) s
      (d ∙ ap taken_by (row_actor l g e m no_actor))

module _ (w : Work) {v : ℕ} (m : v ≡ w.actors) where
  -- The costs of all actors are the cost of the graph.
  pub cost_whole : (K : ℕ) {x : ℕ} → x ≡ sum_to (actor_cost w K) v → x ≡ cost w K
  unfolding cost fewest
  cost_whole K e = e ∙ ap (sum_to _) m

  -- The times of all actors are the time of an iteration.
  pub iteration_whole : {x : ℕ} → x ≡ sum_to (actor_time w) v → x ≡ iteration w
  unfolding iteration
  iteration_whole e = e ∙ ap (sum_to _) m

module _ {heads : List Head} {actors : List Actor} {room : ℕ} (l : Lent heads actors room) where
  -- The graphs that are lent.
  abbrev pub sheet : Works
  sheet = works_of heads actors room

  module _ {t i : ℕ} (h : t ≤ max_ticks) (m : i < length heads) where
    -- The time of so many iterations as a frame has periods fits.
    pub load_fits : {x k : ℕ} → x ≡ iteration (sheet.work i) → k ≡ t / (sheet.work i).period → x * k < 2 ^ 64
    load_fits {x} {k} e d =
        rw (mul_comm x k, e, d) (fits_iterations (l.bounded.work i m) (le_trans (div-le_self t (sheet.work i).period) h))

    -- The blocks of a graph due in a length are no more than K may be.
    pub due_asked : {k : ℕ} → k ≡ due (sheet.work i).period (sheet.work i).deadline t → k ≤ max_outputs
    due_asked e = omega (arith, due_at_most (sheet.work i).period (sheet.work i).deadline t (l.bounded.work i m).deadline_low)

    -- The demand of graph i is added.
    pub demand_added : {x y k : ℕ} → x ≡ sum_to (graph_demand sheet t) i → k ≡ due (sheet.work i).period (sheet.work i).deadline t
        → y ≡ cost (sheet.work i) k → Added (graph_demand sheet t) x y i
    unfolding blocks
    demand_added e b d = added (graph_demand sheet t) (fits_demand_to l.bounded h (omega (arith, m))) e (d ∙ ap (cost _) b)

    -- The load of graph i is added.
    pub load_added : {x y : ℕ} → x ≡ sum_to (graph_load sheet t) i → y ≡ graph_load sheet t i → Added (graph_load sheet t) x y i
    load_added e d = added (graph_load sheet t) (fits_load_to l.bounded h (omega (arith, m))) e d
