-- `length::blocks` meets its contract.
use mathlib.Core.Path.{◌∙◌, sym}
use Prim.Native.Nat.{◌<◌, ◌≤◌}
use Rattle.edf.proofs.Blocks.{due_early, due_from}
use borrow.Author.Rules.{rules}
use Rattle.demand.proofs.length.blocks.Goals as goal

pub returns-then-lt : goal.returns-then-lt
returns-then-lt c =
    let a = c.args in
    let h : a.length.n < a.deadline.n = search rules in
    c.of.ensures ∙ sym (due_early a.period.n _ _ h)

pub returns : goal.returns
returns c =
    let a = c.args in
    let h : a.deadline.n ≤ a.length.n = search rules in
    cc (due_from a.period.n _ _ h)
