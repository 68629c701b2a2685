-- What one step of writing a task list leaves.
use Rattle.std.specs.Prelude.{◌≡◌, List, ℕ, ◌+◌, length}
use Rattle.std.proofs.lemmas.List.Edits.{sets}
use Rattle.edf.specs.Demand.{Work}
use Rattle.demand.specs.declared.rows.Head.{Head}
use Rattle.demand.specs.declared.rows.Actor.{Actor}

-- One actor as a graph by itself.
abbrev pub alone : Actor → Head → Work
alone actor head = record {
  period = head.period.n;
  deadline = head.deadline.n;
  actors = 1;
  time = λ v. actor.time.n;
  repetition = λ v. actor.repetition.n;
  skip = λ v. actor.skip.n;
}

-- The numbers xs stand from place `to` on, and nothing else has changed; `next` is the place behind them.
pub record Wrote (before : List ℕ) (to : ℕ) (xs : List ℕ) (after : List ℕ) (next : ℕ) : Type 0 where
  pub place : next ≡ to + length xs
  pub list : after ≡ sets before to xs
