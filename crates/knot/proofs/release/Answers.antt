-- `release` takes v out only where it waits for nobody that is left.
use Rattle.knot.proofs.Knots.{released}
use Rattle.knot.proofs.release.Goals as goal

pub returns : goal.returns
returns c =
    released _ _ _ _ _ _ c.common.ensures.0 c.with.ensures c.minus.ensures.0 c.minus.ensures.1
