-- `enough` gives what one firing takes on a channel from an actor to itself, and what the tail puts on any other.
use mathlib.Core.Path.{◌∙◌}
use Rattle.trial.specs.Read.{seen}
use Rattle.repeat.proofs.Growth.{enough_self, enough_other}
use Rattle.repeat.proofs.repetition.enough.Goals as goal

pub returns-then-e : goal.returns-then-e
returns-then-e c =
    λ q e. enough_self (seen c.args.e) q c.if-e.true

pub returns-else-e : goal.returns-else-e
returns-else-e c =
    λ q e. e ∙ enough_other (seen c.args.e) q c.if-e.false
