-- A row of actors: the numbers of each graph are there, and within the bounds.
use mathlib.Core.Path.{◌≡◌, ◌∙◌, ap}
use mathlib.Core.List.{List}
use Prim.Native.Nat.{ℕ, ◌+◌, ◌*◌, ◌<◌, ◌≤◌}
use native.Mathlib.Nat.{mul-le-mul_left}
use native.Mathlib.Omega.{arith}
use lib.ListN.{length, get_or, take, drop}
use Rattle.std.proofs.lemmas.List.{get_or-take, get_or-drop, length-take-le, length-drop}
use Rattle.edf.specs.Demand.{Work}
use Rattle.edf.specs.Bounds.{Bounded}
use Rattle.demand.specs.declared.rows.Head.{Head}
use Rattle.demand.specs.declared.rows.Actor.{Actor}
use Rattle.demand.specs.Lent.{work_at, Lent}

module _ {heads : List Head} {actors : List Actor} {room i : ℕ} (l : Lent heads actors room) (g : i < length heads) where
  -- The graph whose row that is.
  abbrev pub walked : Work
  walked = work_at heads actors room i

  -- It is within the bounds.
  pub graph_bounded : Bounded walked
  graph_bounded = l.bounded.work i g

  -- The actors of the graph are there.
  pub row_there : room * i + walked.actors ≤ length actors
  row_there = omega (arith, l.fits i g, l.there, mul-le-mul_left {m = i + 1} {n = length heads} room (omega (arith, g)))

  -- They are the list xs.
  module _ {xs : List Actor} (e : xs ≡ take walked.actors (drop (room * i) actors)) where
    -- It has as many as the graph.
    pub row_length : length xs ≡ walked.actors
    row_length = ap length e ∙ length-take-le walked.actors (drop (room * i) actors) (omega (arith, row_there, length-drop (room * i) actors))

    module _ {v : ℕ} where
      -- A walk that has come to the end has passed all actors.
      pub all_actors : length xs ≤ v → v ≤ length xs → v ≡ walked.actors
      all_actors m n = omega (arith, row_length)

      module _ (m : v < length xs) where
        -- Actor v is one of the graph's,
        pub actor : v < walked.actors
        actor = omega (arith, row_length)

        -- and stands in its place.
        pub row_actor : (a : Actor) → get_or xs v a ≡ get_or actors (room * i + v) a
        row_actor a = ap (λ (ys : List Actor). get_or ys v a) e ∙ get_or-take walked.actors (drop (room * i) actors) v a actor
            ∙ get_or-drop (room * i) actors v a
