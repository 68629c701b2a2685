-- `glance::WholeGlance::glance` meets its contract.
use Rattle.demand.specs.Rows.{works_in}
use Rattle.late.proofs.Glances.{glanced}
use Rattle.late.proofs.glance.WholeGlance.glance.Goals as goal

pub returns : goal.returns
returns c =
    let same = c.requires.0 in
    (same, rw (← same) (glanced (works_in c.args.self.now.weighted.now.rows.now) c.without_skips.ensures))
