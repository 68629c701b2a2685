-- `calls::fewest_of` meets its contract: 15, 13, or the fewest firings.
use mathlib.Core.Path.{◌≡◌}
use Prim.Native.Nat.{◌<◌}
use lib.ListN.{length, get_or}
use native.Mathlib.Omega.{arith}
use Rattle.std.specs.Prelude.{Some}
use Rattle.units.specs.Bounds.{max_outputs}
use Rattle.units.proofs.Within.{firings_told}
use Rattle.demand.specs.Lent.{no_actor}
use Rattle.demand.specs.Rows.{actors_in}
use Rattle.shambrukit.proofs.Answers.{fewest_value, fewest_fits}
use Rattle.shambrukit.proofs.calls.fewest_of.Goals as goal

pub fewest_firings-requires : goal.fewest_firings-requires
fewest_firings-requires c =
    let a = c.args in
    let outputs : c.outputs.result ≡ Some c.in_ok-outputs.outputs = grind arith in
    let (inside, same) = firings_told 0 max_outputs a.k c.outputs.ensures outputs in
    let there : a.graph < length a.rows.now.heads.now = grind arith in
    let v : a.actor < length (actors_in a.rows.now a.graph) = grind arith in
    let of : c.in_ok-repetition.field-0.now ≡ get_or (actors_in a.rows.now a.graph) a.actor no_actor = grind arith in
    fewest_fits a.rows.now a.graph a.actor a.k there v inside.1 same of

pub returns : goal.returns
returns c =
    let a = c.args in
    let outputs : c.outputs.result ≡ Some c.in_ok-outputs.outputs = grind arith in
    let (inside, same) = firings_told 0 max_outputs a.k c.outputs.ensures outputs in
    let there : a.graph < length a.rows.now.heads.now = grind arith in
    let v : a.actor < length (actors_in a.rows.now a.graph) = grind arith in
    let of : c.in_ok-repetition.field-0.now ≡ get_or (actors_in a.rows.now a.graph) a.actor no_actor = grind arith in
    fewest_value a.rows.now a.graph a.actor a.k there v inside.1 same of (grind arith)
