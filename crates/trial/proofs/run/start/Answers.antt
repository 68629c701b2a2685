-- `start` leaves all of q still to come, with every actor ready.
use mathlib.Core.Path.{◌≡◌, ◌∙◌, ap}
use Prim.Native.Nat.{ℕ}
use native.Mathlib.Omega.{arith}
use native.Mathlib.Numerals.{add-one}
use borrow.Author.Rules.{rules}
use lib.ListN.{replicate}
use lib.Seq.{length-take-le}
use Rattle.sdf.proofs.Sum.{sum_bound}
use Rattle.sdf.specs.Sum.{sum_to}
use Rattle.trial.specs.Flat.{vector}
use Rattle.units.specs.Bounds.{max_repetition}
use Rattle.trial.proofs.Toward.{started_filled}
use Rattle.trial.proofs.run.start.Goals as goal

pub loop-v-init : goal.loop-v-init
unfolding sum_to
loop-v-init c = (
  λ w l. absurd (omega arith),
  c.of-rest.ensures,
)

pub plus-rest-requires : goal.plus-rest-requires
plus-rest-requires c =
    omega (arith, c.of.ensures, c.requires.1 c.loop-v.v c.loop-v-test.true, c.loop-v.invariant.1, sum_bound (vector c.args.q.now) c.loop-v.v max_repetition (λ w l. c.requires.1 w (omega (arith, c.loop-v-test.true))), c.requires.0, c.loop-v-test.true)

pub loop-v-preserved : goal.loop-v-preserved
unfolding sum_to
loop-v-preserved c = (
  search rules,
  rw add-one (omega (arith, c.loop-v.invariant.1, c.plus-rest.ensures, c.of.ensures)),
)

pub returns : goal.returns
returns c =
    let e : c.loop-v.v ≡ c.args.actors = omega arith in
    started_filled _ (λ v l. c.loop-v.invariant.0 v (omega (arith, l, e)))
    (c.fill.ensures.after (λ y h. search rules) ∙ ap (λ (n : ℕ). replicate n 1) (length-take-le c.args.actors c.args.ready.now c.requires.4))
    (c.loop-v.invariant.1 ∙ ap (λ n. sum_to (vector c.args.q.now) n) e)
