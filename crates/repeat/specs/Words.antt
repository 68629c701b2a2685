-- What one pass over the channels of a graph tells, in sets of actors: three for each actor.
use Rattle.std.specs.Prelude.{◌≡◌, Bool, true, List, ℕ, ◌+◌, ◌*◌, ◌<◌, ◌≤◌, ltb, length, get_or}
use Rattle.sets.specs.Sets.{has, Gathers}
use Rattle.sdf.specs.Graph.{Graph, Reaches}
use Rattle.sdf.specs.Skip.{Skippable}
use Rattle.repeat.specs.declared.draw.Neighbours.{Neighbours}

abbrev pub nobody : Neighbours
nobody = record { heads = 0; tails = 0; tied = 0 }

-- What stands in the list for an actor: the heads of the channels out of it, the tails of those into it, and the tails that are tied
-- to it.
abbrev pub heads_of : List Neighbours → ℕ → ℕ
heads_of neighbours v = (get_or neighbours v nobody).heads

abbrev pub tails_of : List Neighbours → ℕ → ℕ
tails_of neighbours v = (get_or neighbours v nobody).tails

abbrev pub tied_of : List Neighbours → ℕ → ℕ
tied_of neighbours v = (get_or neighbours v nobody).tied

-- Channel c leads from t to h.
abbrev pub Joins : Graph → ℕ → ℕ → ℕ → Type 0
Joins g c t h = (c < g.channels) × ((g.channel c).tail ≡ t) × ((g.channel c).head ≡ h)

-- A channel that holds too few tokens for its tail to skip a firing while its head skips none.
abbrev pub tied : Graph → ℕ → Bool
tied g c = ltb (g.channel c).tokens (g.channel c).produce

-- A channel that keeps its head from firing in the initial tokens.
abbrev pub keeps : Graph → ℕ → Bool
keeps g c = ltb (g.channel c).tokens (g.channel c).consume

-- The list has every actor's neighbours by the channels.
pub record Words (g : Graph) (neighbours : List Neighbours) : Type 0 where
  pub room : g.actors ≤ length neighbours
  pub heads : Gathers g.actors g.channels (λ c. (g.channel c).tail) (λ c. (g.channel c).head) (λ _. true) (heads_of neighbours)
  pub tails : Gathers g.actors g.channels (λ c. (g.channel c).head) (λ c. (g.channel c).tail) (λ _. true) (tails_of neighbours)
  pub tied : Gathers g.actors g.channels (λ c. (g.channel c).head) (λ c. (g.channel c).tail) (tied g) (tied_of neighbours)

-- For every pair of actors that a channel joins there stands such a channel.
abbrev pub Between : Graph → List Neighbours → List ℕ → Type 0
Between g neighbours between = (t h : ℕ) → t < g.actors → h < g.actors → has (heads_of neighbours t) h ≡ 1 → Joins g (get_or between (g.actors * t + h) 0) t h

-- The set of those that a channel keeps from firing in the initial tokens.
abbrev pub KeptBack : Graph → ℕ → Type 0
KeptBack g set = Gathers 1 g.channels (λ _. 0) (λ c. (g.channel c).head) (keeps g) (λ _. set)

-- u reaches every actor; every actor reaches u.
abbrev pub AllFrom : Graph → ℕ → Type 0
AllFrom g u = (v : ℕ) → v < g.actors → Reaches g u v

abbrev pub AllTo : Graph → ℕ → Type 0
AllTo g u = (v : ℕ) → v < g.actors → Reaches g v u

-- Actors that cannot skip, the output among them: they reach it by tied channels.
pub record Unskipped (g : Graph) (zero : ℕ) : Type 0 where
  pub output : has zero g.output ≡ 1
  pub actors : (v : ℕ) → has zero v ≡ 1 → v < g.actors
  pub reach : (v : ℕ) → has zero v ≡ 1 → Reaches g v g.output
  pub none : (v : ℕ) → has zero v ≡ 1 → (x : ℕ → ℕ) → Skippable g x → x v ≡ 0
