-- `sets::covers` meets its contract.
use Rattle.sets.proofs.Bits.{covers_empty}
use Rattle.sets.proofs.covers.Goals as goal

pub returns : goal.returns
returns c =
    covers_empty c.all.result c.args.set c.minus.result c.args.n c.all.ensures c.minus.ensures.0
