-- `cycle::TableGlance::glance` meets its contract.
use borrow.Author.Rules.{rules}
use native.Mathlib.Omega.{arith}
use Prim.Native.Nat.{◌≤◌}
use Rattle.late.proofs.Glances.{glanced_eased}
use Rattle.late.proofs.Parts.{eased_on}
use Rattle.late.proofs.cycle.TableGlance.glance.Goals as goal

pub returns-then-le : goal.returns-then-le
returns-then-le c =
    let e = c.requires.0 in
    let look = rw c.graphs.ensures at c.look-asks.ensures in
    let few : c.look-asks.result.n ≤ c.floor_at.result.n = search rules in
    (eased_on e look.1, glanced_eased e look.0 (omega (arith, few, c.floor_at.ensures)))
