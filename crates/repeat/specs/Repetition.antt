-- 01, answers 8 and 9, for the engine: vectors that grow along the channels from the input. 0 says that an actor has no number
-- yet.
use Rattle.std.specs.Prelude.{◌≡◌, ◌≢◌, ◌↔◌, List, ℕ, ◌*◌, ◌<◌, ◌≤◌, Result, Ok, Err}
use Rattle.std.specs.Int.{◌∣◌}
use Rattle.units.specs.Bounds.{max_repetition}
use Rattle.sdf.specs.Graph.{Graph, Reaches, Reached}
use Rattle.sdf.specs.Balance.{Balanced, AtMost, Repetition, Balances}
use Rattle.trial.specs.Flat.{vector}
use Rattle.trial.specs.Knot.{Awaits}
use Rattle.repeat.specs.Words.{AllFrom}
use Rattle.repeat.specs.declared.repetition.Unnumbered.{Unnumbered}
use Rattle.repeat.specs.declared.repetition.Unnumbered.TheVariants.{Unbalanced, Unreached}

-- What the search for the numbers comes to: found, or why there are none.
abbrev pub Numbering : Type 0
Numbering = Result (Unit {0}) Unnumbered

-- k is the least positive number for which c divides k × m.
pub record LeastFactor (m c k : ℕ) : Type 0 where
  pub positive : 0 < k
  pub divides : c ∣ k * m
  pub least : (j : ℕ) → 0 < j → c ∣ j * m → k ≤ j

-- Every number is k times what it was and none is past the bound; or one that is k times as large would be past it.
abbrev pub ScaleAnswer : ℕ → ℕ → Numbering → (before after : List ℕ) → Type 0
ScaleAnswer actors k (Ok _) before after = (v : ℕ) → v < actors → (vector after v ≡ vector before v * k) × (vector after v ≤ max_repetition)
ScaleAnswer actors k (Err e) before after = (e ≡ Unbalanced) × ((v : ℕ) × (v < actors) × (max_repetition < vector before v * k))

-- Every balanced vector is a whole multiple of the numbers there are.
abbrev pub Multiples : Graph → (ℕ → ℕ) → Type 0
Multiples g x = (b : ℕ → ℕ) → Balanced g b → (j : ℕ) × ((v : ℕ) → v < g.actors → 0 < x v → b v ≡ j * x v)

-- u reaches every actor that has a number.
abbrev pub Within : Graph → ℕ → (ℕ → ℕ) → Type 0
Within g u x = (v : ℕ) → v < g.actors → 0 < x v → Reaches g u v

-- The input has a number and reaches every actor that has one, none is past the bound, and every balanced vector is a whole
-- multiple of the numbers there are.
pub record Grown (g : Graph) (x : ℕ → ℕ) : Type 0 where
  pub input : 0 < x g.input
  pub within : Within g g.input x
  pub bound : AtMost g x (λ _. max_repetition)
  pub multiple : Multiples g x

-- Channel c leads to an actor with a number if it comes from one.
abbrev pub Follows : Graph → (ℕ → ℕ) → ℕ → Type 0
Follows g x c = 0 < x (g.channel c).tail → 0 < x (g.channel c).head

-- Every channel does.
abbrev pub Numbered : Graph → (ℕ → ℕ) → Type 0
Numbered g x = (c : ℕ) → c < g.channels → Follows g x c

-- The head of channel c has got a number, and of the others those have one that had one.
pub record Extended (g : Graph) (c : ℕ) (before after : List ℕ) : Type 0 where
  pub grown : Grown g (vector after)
  pub head : 0 < vector after (g.channel c).head
  pub others : (v : ℕ) → v < g.actors → v ≢ (g.channel c).head → (0 < vector after v) ↔ (0 < vector before v)

-- The head of channel c has got a number; or no balanced vector is within the bound.
abbrev pub Extends : Graph → ℕ → Numbering → (before after : List ℕ) → Type 0
Extends g c (Ok _) before after = Extended g c before after
Extends g c (Err e) before after = (e ≡ Unbalanced) × (¬ Balances g max_repetition)

-- Every actor has a number; or no balanced vector is within the bound; or the input does not reach every actor.
abbrev pub GrowAnswer : Graph → Numbering → List ℕ → Type 0
GrowAnswer g (Ok _) q = Grown g (vector q) × ((v : ℕ) → v < g.actors → 0 < vector q v)
GrowAnswer g (Err Unbalanced) q = ¬ Balances g max_repetition
GrowAnswer g (Err Unreached) q = ¬ AllFrom g g.input

-- 01, Balanced, but for positive: on channel c, and on every channel.
abbrev pub Even : Graph → (ℕ → ℕ) → ℕ → Type 0
Even g x c = x (g.channel c).tail * (g.channel c).produce ≡ x (g.channel c).head * (g.channel c).consume

abbrev pub Equal : Graph → (ℕ → ℕ) → Type 0
Equal g x = (c : ℕ) → c < g.channels → Even g x c

-- The numbers are even on every channel, and for whom each actor has to wait stands beside; or on some channel they are not.
abbrev pub SettleAnswer : Graph → Numbering → (q awaits : List ℕ) → Type 0
SettleAnswer g (Ok _) q awaits = Equal g (vector q) × Awaits g (vector q) (vector awaits)
SettleAnswer g (Err e) q awaits = (e ≡ Unbalanced) × (¬ Equal g (vector q))

-- The repetition vector of the graph stands in the list, with no entry above the bound.
pub record Repeats (g : Graph) (q : List ℕ) : Type 0 where
  pub repetition : Repetition g (vector q)
  pub bound : AtMost g (vector q) (λ _. max_repetition)

-- What the search for the numbers says: the repetition vector stands in the list, the input reaches every actor, and for whom each
-- actor has to wait stands beside; or no balanced vector is within the bound; or the input does not reach every actor.
abbrev pub RepetitionAnswer : Graph → Numbering → (q awaits : List ℕ) → Type 0
RepetitionAnswer g (Ok _) q awaits = AllFrom g g.input × Repeats g q × Awaits g (vector q) (vector awaits)
RepetitionAnswer g (Err Unbalanced) q awaits = ¬ Balances g max_repetition
RepetitionAnswer g (Err Unreached) q awaits = ¬ AllFrom g g.input

-- 01, answers 7 and 8: the repetition vector of a graph that is reached, or the first of the two that applies.
abbrev pub BalanceAnswer : Graph → Numbering → (q awaits : List ℕ) → Type 0
BalanceAnswer g (Ok _) q awaits = Reached g × Repeats g q × Awaits g (vector q) (vector awaits)
BalanceAnswer g (Err Unbalanced) q awaits = Reached g × (¬ Balances g max_repetition)
BalanceAnswer g (Err Unreached) q awaits = ¬ Reached g
