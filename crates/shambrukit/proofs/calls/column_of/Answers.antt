-- `calls::column_of` meets its contract: 15, 14, or a number for each actor of the graph.
use mathlib.Core.Path.{◌≡◌}
use Prim.Native.Nat.{◌<◌}
use lib.ListN.{length}
use native.Mathlib.Omega.{arith}
use Rattle.std.specs.Prelude.{map}
use Rattle.std.proofs.lemmas.List.{length-map, length-set}
use Rattle.demand.specs.Lent.{no_actor}
use Rattle.demand.specs.Rows.{actors_in}
use Rattle.shambrukit.proofs.Copied.{copied_turn, copied_all}
use Rattle.shambrukit.proofs.Answers.{listed_room, listed_wrote, column_held}
use Rattle.shambrukit.proofs.calls.column_of.Goals as goal

pub returns-then-out-actors : goal.returns-then-out-actors
returns-then-out-actors g c =
    λ field numbers post column.
    let a = c.args in
    let there : a.graph < length a.rows.now.heads.now = grind arith in
    let count : length c.actors_of-actors.result.now ≡ length (map field (actors_in a.rows.now a.graph)) = grind (arith, length-map) in
    listed_room a.graph _ numbers there count (column_held a.graph field numbers column there) c.if-out-actors.true

pub loop-v-preserved : goal.loop-v-preserved
loop-v-preserved g c = (
  grind (arith, length-set),
  λ field post.
      copied_turn field _ _ no_actor (c.loop-v.invariant.1 field post) c.loop-v-test.true (grind arith) (post _ _ c.number.ensures),
)

pub returns : goal.returns
returns g c =
    λ field numbers post column.
    let a = c.args in
    let there : a.graph < length a.rows.now.heads.now = grind arith in
    let count : length c.actors_of-actors.result.now ≡ length (map field (actors_in a.rows.now a.graph)) = grind (arith, length-map) in
    let same : c.actors_of-actors.result.now ≡ actors_in a.rows.now a.graph = grind arith in
    let wrote = copied_all field c.actors_of-actors.result.now a.out.now (c.loop-v.invariant.1 field post) c.loop-v-test.false c.loop-v.auto.v-end same in
    listed_wrote a.graph _ numbers there count (column_held a.graph field numbers column there) c.if-out-actors.false wrote
