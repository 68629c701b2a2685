-- `settle` looks at the channels one after the other. The invariant: those before c are even, and who awaits whom by them is gathered.
use mathlib.Core.Path.{◌≡◌, refl, sym, ap, subst, ◌∙◌}
use mathlib.Core.Bool.{Bool, cond}
use mathlib.Core.Logic.{◌↔◌}
use Prim.Native.Nat.{ℕ, ◌*◌}
use native.Mathlib.Omega.{arith}
use borrow.Author.Tests.{eqb-false, eqb-true}
use lib.Dec.{ltb}
use Rattle.std.proofs.lemmas.Bool.{not-true, not-false}
use Rattle.sets.proofs.Decided.{ordered_less}
use Rattle.sets.specs.Sets.{Marked}
use Rattle.trial.specs.Flat.{vector}
use Rattle.trial.specs.Net.{net_graph}
use Rattle.trial.specs.Read.{seen}
use Rattle.trial.specs.Knot.{enough}
use Rattle.repeat.specs.Repetition.{Even}
use Rattle.repeat.proofs.Growth.{even, settling_start, settling_turn, settling_end}
use Rattle.repeat.proofs.repetition.settle.Goals as goal
use Rattle.repeat.proofs.repetition.settle.Goals.{After-ne}

-- What the tail puts.
puts : (c : After-ne) → let e = seen c.read-e.result in c.moved-put.result.n ≡ vector c.args.q.now e.tail * e.produce
puts c = c.moved-put.ensures

products : (c : After-ne) → (c.moved-put.result.n ≡ c.moved.result.n) ↔ Even (net_graph c.args.net.now) (vector c.args.q.now) c.loop-c.c
products c =
    let e = even (net_graph c.args.net.now) c.loop-c.c (seen c.read-e.result) c.read-e.ensures.is (vector c.args.q.now) in
    let taken = c.moved.ensures in
    (λ h. e.0 (sym (puts c) ∙ h ∙ taken), λ h. puts c ∙ e.1 h ∙ sym taken)

pub loop-c-init : goal.loop-c-init
loop-c-init c = settling_start (net_graph c.args.net.now) _ c.clear.new.words c.clear.ensures

pub returns-then-ne : goal.returns-then-ne
returns-then-ne c =
    (refl, λ e. eqb-false c.moved-put.result.n c.moved.result.n (not-true _ (sym c.ne.ensures ∙ c.if-ne.true)) ((products (goal.at.returns-then-ne c).After-ne).1 (e c.loop-c.c (omega (arith, c.loop-c-test.true, c.channel_count-c-end.ensures)))))

pub loop-c-preserved : goal.loop-c-preserved
loop-c-preserved c =
    let k = (goal.at.loop-c-preserved c).After-ne in
    let e = seen c.read-e.result in
    let q = vector c.args.q.now in
    let flag = ap (λ (f : Bool). cond f 1 0) (c.lt.ensures ∙ ordered_less e.tokens c.enough.result.n ∙ ap (λ (n : ℕ). ltb e.tokens n) (c.enough.ensures q (puts k))) in
    let marked : Marked e.head e.tail (cond (ltb e.tokens (enough e q)) 1 0) c.loop-c.awaits c.mark.new.words = subst (λ (b : ℕ). Marked e.head e.tail b c.loop-c.awaits c.mark.new.words) flag c.mark.ensures in
    settling_turn e c.loop-c.invariant c.read-e.ensures.is ((products k).0 (eqb-true c.moved-put.result.n c.moved.result.n (not-false _ (sym c.ne.ensures ∙ c.if-ne.false)))) marked

pub returns : goal.returns
returns c = settling_end c.loop-c.invariant (omega (arith, c.loop-c-test.false, c.loop-c.auto.c-end, c.channel_count-c-end.ensures))
