-- `within` asks for the two ends and then for the tokens.
use mathlib.Core.Path.{refl, sym, ap, ◌∙◌}
use Prim.Native.Nat.{ℕ, ◌*◌, ◌≤◌}
use native.Mathlib.Nat.{mul-le-mul}
use native.Mathlib.Omega.{arith}
use Rattle.trial.specs.Flat.{vector}
use Rattle.trial.specs.Net.{net_graph}
use Rattle.units.specs.declared.Tokens.{Tokens}
use Rattle.sets.proofs.Decided.{ordered_less}
use Rattle.trial.specs.Read.{seen}
use Rattle.trial.proofs.Places.{read}
use Rattle.knot.proofs.Keeping.{enough_own, enough_other, within_asks}
use Rattle.knot.proofs.within.Goals as goal
use Rattle.knot.proofs.within.Goals.{then-e, else-e}

pub tokens-enough-requires : goal.tokens-enough-requires
tokens-enough-requires c =
    let known = read (net_graph c.args.net.now) c.args.c (seen c.at-e.result) c.args.net.now.drawn c.requires.2 (sym c.at-e.ensures) in
    let most : c.of.result.n ≤ 4096 = omega (arith, c.of.ensures, c.requires.0 c.at-e.result.tail known.tail) in
    omega (arith, mul-le-mul most known.produce.1)

pub returns : goal.returns
returns c =
    let q = vector c.args.q.now in
    let e = seen c.at-e.result in
    rw (c.lt.ensures, ordered_less e.tokens c.if-e.enough.n)
    (within_asks (net_graph c.args.net.now) q c.args.core c.args.c e e.tokens c.if-e.enough.n c.at-e.ensures (λ z. omega arith) (λ z. omega arith) refl
    (elim c.if-e.branch [
      | then-e w ↦ ap (λ (t : Tokens). t.n) w.enough-is ∙ sym (enough_own e q w.if-e.true)
      | else-e w ↦ ap (λ (t : Tokens). t.n) w.enough-is ∙ w.tokens-enough.ensures ∙ ap (λ (x : ℕ). x * e.produce) w.of.ensures ∙ sym (enough_other e q w.if-e.false)
    ]))
