-- 01, Skip numbers, for the engine: a vector that starts above every skippable one and falls, channel by channel, until every
-- channel is met. An actor is ready where its skip fell since the channels into it were last looked at.
use Rattle.std.specs.Prelude.{◌≡◌, ◌≢◌, List, ℕ, ◌*◌, ◌<◌, ◌≤◌, max}
use Rattle.units.specs.Bounds.{engine_actors, max_tokens, max_repetition}
use Rattle.sdf.specs.Graph.{Graph}
use Rattle.sdf.specs.Balance.{AtMost}
use Rattle.sdf.specs.Skip.{allowed}
use Rattle.sdf.specs.Sum.{sum_to}
use Rattle.sdf.proofs.Skip.{Above}
use Rattle.sets.specs.Sets.{has}
use Rattle.trial.specs.Flat.{vector}

-- No skip is larger.
abbrev pub max_skip : ℕ
max_skip = engine_actors * max_tokens * max_repetition

-- The first vector: 0 in the set, and elsewhere actors × the most tokens × the repetition number.
pub record Highest (actors zero : ℕ) (q s : ℕ → ℕ) : Type 0 where
  pub high : (v : ℕ) → v < actors → has zero v ≡ 0 → s v ≡ actors * max_tokens * q v
  pub none : (v : ℕ) → v < actors → has zero v ≡ 1 → s v ≡ 0

-- A vector on its way: at or above every skippable vector, 0 in the set and at the output, and nowhere above the largest skip.
pub record Falling (g : Graph) (zero : ℕ) (s : ℕ → ℕ) : Type 0 where
  pub above : Above g s
  pub output : s g.output ≡ 0
  pub none : (v : ℕ) → v < g.actors → has zero v ≡ 1 → s v ≡ 0
  pub bound : AtMost g s (λ _. max_skip)

-- Channel d is met: the tail's skip is at most what the channel allows.
abbrev pub Meets : Graph → (ℕ → ℕ) → ℕ → Type 0
Meets g s d = s (g.channel d).tail ≤ allowed (g.channel d) (s (g.channel d).head)

-- Channel d is met, unless its head is ready: its skip fell since the channels into it were last looked at.
abbrev pub Watched : Graph → (s ready : ℕ → ℕ) → ℕ → Type 0
Watched g s ready d = d < g.channels → ready (g.channel d).head ≡ 0 → Meets g s d

-- Actors, among them every one of the set at 0 with a tail outside it: a channel into another of the set comes from the set.
pub record Entries (g : Graph) (zero entries : ℕ) : Type 0 where
  pub actors : (v : ℕ) → has entries v ≡ 1 → v < g.actors
  pub inside : (d : ℕ) → d < g.channels → has zero (g.channel d).head ≡ 1 → has entries (g.channel d).head ≡ 0 → has zero (g.channel d).tail ≡ 1

-- What is left after the channels into h have lowered their tails: of those in the set `fell` the entry is less, and every channel is
-- met but those into actors that were ready, h not among them, or have fallen.
pub record Lowered (g : Graph) (zero h fell : ℕ) (before after : List ℕ) : Type 0 where
  pub falling : Falling g zero (vector after)
  pub actors : (v : ℕ) → has fell v ≡ 1 → v < g.actors
  pub less : 0 < fell → sum_to (vector after) g.actors < sum_to (vector before) g.actors
  pub still : fell ≡ 0 → after ≡ before
  pub watched : (ready : ℕ → ℕ) → ((d : ℕ) → (g.channel d).head ≢ h → Watched g (vector before) ready d) → (d : ℕ) → Watched g (vector after) (λ v. max (ready v) (has fell v)) d
