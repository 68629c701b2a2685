-- `calls::verdict_of` meets its contract: 20, 21, or 0.
use mathlib.Core.Path.{sym, ◌∙◌}
use Prim.Native.Nat.{◌<◌}
use native.Mathlib.Omega.{arith}
use Rattle.std.proofs.lemmas.Map.Keys.{ge_from_not_lt}
use Rattle.shambrukit.proofs.Held.{frame_held}
use Rattle.shambrukit.proofs.Answers.{overload_held, late_held, accepted_held}
use Rattle.shambrukit.proofs.calls.verdict_of.Goals as goal

pub returns-then-lt : goal.returns-then-lt
returns-then-lt c =
    let over : c.args.frame.n < c.frame_load-load.result.n = grind arith in
    λ js st. overload_held st _ _ c.frame_load-load.ensures over

pub late-requires-clause-lent : goal.late-requires-clause-lent
late-requires-clause-lent c =
    let (js, st, framed) = c.requires in
    (frame_held st framed, framed.1, c.frame_load-load.ensures, ge_from_not_lt _ _ (sym c.lt.ensures ∙ c.if-lt.false))

pub returns-in-Some : goal.returns-in-Some
returns-in-Some c =
    λ js st. late_held st _ _ c.frame_load-load.ensures (ge_from_not_lt _ _ (sym c.lt.ensures ∙ c.if-lt.false)) c.in-Some.ensures

pub returns-in-None : goal.returns-in-None
returns-in-None c =
    λ js st. accepted_held st _ _ c.frame_load-load.ensures (ge_from_not_lt _ _ (sym c.lt.ensures ∙ c.if-lt.false)) c.in-None.ensures
