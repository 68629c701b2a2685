-- `lowers` meets its contract: the comparison without a division.
use Rattle.sets.proofs.Decided.{ordered_less}
use Rattle.trial.specs.Read.{seen}
use Rattle.graph.proofs.Lowering.{lowers_says}
use Rattle.graph.proofs.skip.lowers.Goals as goal

pub returns : goal.returns
returns c =
    rw (c.lt.ensures, ordered_less c.spare.result.n c.tokens.result.n)
    (lowers_says (seen c.args.e) c.args.skip.n c.args.from.n c.spare.result.n c.tokens.result.n c.requires.0 c.spare.ensures c.tokens.ensures)
