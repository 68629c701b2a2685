-- `uneven` gives the head the number that its tail asks, with the least factor for all others.
use mathlib.Core.Path.{◌≡◌, refl, ap, ◌∙◌}
use Prim.Native.Nat.{ℕ, ◌*◌, ◌/◌}
use native.Mathlib.Omega.{arith}
use Rattle.std.proofs.lemmas.Result.{err_from_is_err_and}
use Rattle.trial.specs.Flat.{vector}
use Rattle.trial.specs.Net.{net_graph}
use Rattle.trial.specs.Read.{seen}
use Rattle.repeat.proofs.Growth.{factor_within, Extending, extending, past_scaled, past_head, extended}
use borrow.Author.Rules.{rules}
use Rattle.repeat.proofs.repetition.uneven.Goals as goal
use Rattle.repeat.proofs.repetition.uneven.Goals.{After-factor-k, After-count-n}

factored : (c : After-factor-k) → Extending (net_graph c.args.net.now) c.args.c (seen c.read-e.result) (vector c.args.q.now) c.factor-k.result
factored c =
    let p = c.requires in
    extending c.args.net.now.drawn.sound p.drawn.2 c.read-e.ensures p.drawn.1 p.nonzero.0 p.nonzero.1 (rw c.moved.ensures at c.factor-k.ensures)

number : (c : After-count-n) → let e = seen c.read-e.result in c.count-n.result ≡ vector c.scale.new.q e.tail * e.produce / e.consume
number c = c.count-n.ensures ∙ c.firings.ensures ∙ ap (λ (m : ℕ). m / (seen c.read-e.result).consume) c.moved-2.ensures

pub scale-requires : goal.scale-requires
scale-requires c =
    let i = factored (goal.at.scale-requires c).After-factor-k in
    (search rules, omega (arith, factor_within i.factor i.read.consume.0), i.grown.bound)

pub returns-in_err-scale : goal.returns-in_err-scale
returns-in_err-scale c =
    let p = c.in_err-scale.ensures in
    let r = err_from_is_err_and c.from_residual.result c.from_residual.ensures.1 in
    rw (r.1, r.2) (p.0, past_scaled (factored (goal.at.returns-in_err-scale c).After-factor-k) p.1.0 p.1.1 p.1.2)

pub returns-then-n-gt-MAX_REPETITION : goal.returns-then-n-gt-MAX_REPETITION
returns-then-n-gt-MAX_REPETITION c =
    let k = goal.at.returns-then-n-gt-MAX_REPETITION c in
    (refl, past_head (factored k.After-factor-k) c.scale.new.q c.in_ok-scale.ensures c.count-n.result (number k.After-count-n) (search rules) c.if-n-gt-MAX_REPETITION.true)

pub returns : goal.returns
returns c =
    let k = goal.at.returns c in
    extended (factored k.After-factor-k) c.scale.new.q c.in_ok-scale.ensures c.count-n.result (number k.After-count-n) (search rules) c.if-n-gt-MAX_REPETITION.false
