-- `calls::demand_of` meets its contract: 13, or the demand at the length.
use mathlib.Core.Path.{◌≡◌, ap, ◌∙◌}
use native.Mathlib.Omega.{arith}
use Rattle.std.specs.Prelude.{Some}
use Rattle.units.specs.Bounds.{max_ticks}
use Rattle.units.proofs.Within.{ticks_told}
use Rattle.edf.specs.Demand.{demand}
use Rattle.demand.specs.Rows.{works_in}
use Rattle.shambrukit.proofs.Answers.{demand_value}
use Rattle.shambrukit.proofs.calls.demand_of.Goals as goal

pub returns : goal.returns
returns c =
    let a = c.args in
    let some : c.length.result ≡ Some c.in_ok-length.length = grind arith in
    let (inside, same) = ticks_told 0 max_ticks a.length c.length.ensures some in
    demand_value a.length inside.1 (c.count.ensures ∙ c.demand_at.ensures ∙ ap (demand (works_in a.rows.now)) same)
