-- `allowed` meets its contract.
use Rattle.sdf.specs.Skip.{allowed}
use Rattle.graph.proofs.skip.allowed.Goals as goal

pub returns : goal.returns
unfolding allowed
returns c =
    cc
