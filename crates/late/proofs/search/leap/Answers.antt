-- `search::leap` meets its contract.
use Rattle.late.proofs.Glances.{leapt_demand}
use Rattle.late.proofs.search.leap.Goals as goal

-- Where the glance does not tell.
pub returns : goal.returns
returns g c = (leapt_demand _ c.look.ensures.0, c.glance-r.ensures.0, c.look.ensures.1)
