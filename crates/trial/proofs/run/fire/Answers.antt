-- `fire` puts, which leaves enough to take.
use borrow.Author.Rules.{rules}
use Rattle.trial.proofs.Firing.{put_enough}
use Rattle.trial.proofs.run.fire.Goals as goal

pub take-requires : goal.take-requires
take-requires c =
    (c.requires.0, search rules, put_enough c.put.ensures c.requires.1)
