-- The graphs that stand ready are lent as demand asks.
use borrow.Author.Rules.{rules}
use mathlib.Core.Path.{sym, ◌∙◌}
use Prim.Native.Nat.{◌≤◌}
use native.Mathlib.Omega.{arith}
use lib.ListN.{length}
use Rattle.std.proofs.lemmas.List.{length-take-le}
use Rattle.shambrukit.proofs.Held.{stand_lent, first_heads}
use Rattle.shambrukit.proofs.form.Memory.rows.Goals as goal

pub invariant_of-result : goal.invariant_of-result
invariant_of-result c =
    let (js, count, stands) = c.requires in
    let room : 8 ≤ length c.args.self.now.heads = search rules in
    record { lent = stand_lent (first_heads stands c.args.graphs count) (length-take-le c.args.graphs c.args.self.now.heads (omega (arith, stands.graphs)) ∙ sym count) (search rules) }
