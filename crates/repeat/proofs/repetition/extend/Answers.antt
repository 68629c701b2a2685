-- `extend` gives the head the number that its tail asks, where that is whole; else it is `uneven`.
use mathlib.Core.Path.{◌≡◌, refl, sym, ap, ap₂, ◌∙◌}
use Prim.Native.Nat.{ℕ, ◌*◌, ◌/◌}
use Rattle.trial.specs.Flat.{vector}
use Rattle.trial.specs.Net.{net_graph}
use Rattle.trial.specs.Read.{seen}
use Rattle.repeat.proofs.Growth.{factor_one, Extending, extending, unscaled, past_head, extended}
use Rattle.repeat.proofs.repetition.extend.Goals as goal
use Rattle.repeat.proofs.repetition.extend.Goals.{Else-n-consume}

-- How often the head can take all that it takes in one firing.
abbrev times : Else-n-consume → ℕ
times c = c.count-put.result / c.count-consume.result

number : (c : Else-n-consume) → let e = seen c.read-e.result in times c ≡ vector c.args.q.now e.tail * e.produce / e.consume
number c = ap₂ (λ (m n : ℕ). m / n) (c.count-put.ensures ∙ c.moved.ensures) c.count-consume.ensures

one : (c : Else-n-consume) → Extending (net_graph c.args.net.now) c.args.c (seen c.read-e.result) (vector c.args.q.now) 1
one c =
    let p = c.requires in
    let n = times c in
    extending c.args.net.now.drawn.sound p.drawn.2 c.read-e.ensures p.drawn.1 p.nonzero.0 p.nonzero.1
    (factor_one n (ap (λ (m : ℕ). n * m) (sym c.count-consume.ensures) ∙ c.if-n-consume.false ∙ c.count-put.ensures ∙ c.moved.ensures))

pub returns-then-n-gt-MAX_REPETITION : goal.returns-then-n-gt-MAX_REPETITION
returns-then-n-gt-MAX_REPETITION c =
    let k = (goal.at.returns-then-n-gt-MAX_REPETITION c).Else-n-consume in
    let q = c.args.q.now in
    (refl, past_head (one k) q (unscaled q c.requires.drawn.1) (times k) (number k) c.requires.drawn.0 c.if-n-gt-MAX_REPETITION.true)

pub returns : goal.returns
returns c =
    let k = (goal.at.returns c).Else-n-consume in
    let q = c.args.q.now in
    extended (one k) q (unscaled q c.requires.drawn.1) (times k) (number k) c.requires.drawn.0 c.if-n-gt-MAX_REPETITION.false
