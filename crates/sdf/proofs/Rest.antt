-- 01, At rest: a block's own firing is never skipped.
use mathlib.Core.Path.{◌≡◌}
use mathlib.Core.Logic.{⊎_elim}
use mathlib.Core.List.{List, [], ◌∷◌}
use Prim.Native.Nat.{ℕ, ◌<◌}
use native.Mathlib.Omega.{arith}
use Rattle.sdf.specs.Graph.{Graph, Sound}
use Rattle.sdf.specs.Order.{initial, Legal, firings, Lives, AtRest}
use Rattle.sdf.specs.Balance.{Balanced, Once}
use Rattle.sdf.specs.Skip.{Skips, fewest}
use Rattle.sdf.proofs.Numbers.{eq_or_ne}
use Rattle.sdf.proofs.Numbers.{chosen}
use Rattle.sdf.proofs.Fewest.{fewest_together}

-- In a graph at rest a legal order that fires anything fires the input.
input_fires : (g : Graph) (v : ℕ) (order : List ℕ) → AtRest g → Legal g (initial g) order → 0 < firings v order → 0 < firings g.input order
unfolding Legal firings
input_fires g v [] rest legal some = omega arith
input_fires g v (w ∷ order) rest (actor, enabled, _) some =
    ⊎_elim (λ e. omega (arith, chosen 1 0 e)) (λ n. absurd (rest w actor n enabled)) (eq_or_ne w g.input)

-- A graph at rest has skip 0 at the input.
pub rest_skip : {g : Graph} {q s : ℕ → ℕ} → Sound g → Balanced g q → Once g q → Lives g q → Skips g s → AtRest g → s g.input ≡ 0
unfolding fewest
rest_skip {g} sound balanced once lives skips rest =
    let (order, legal, fires) = fewest_together sound balanced lives skips.skippable 1 in
    let output : 0 < firings g.output order = omega (arith, fires g.output sound.output) in
    omega (arith, fires g.input sound.input, input_fires g g.output order rest legal output)
