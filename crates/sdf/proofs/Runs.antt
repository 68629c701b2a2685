-- An order on its way to counts q, and one firing more.
use mathlib.Core.Path.{refl}
use mathlib.Core.List.{List, [], ◌∷◌, ◌++◌}
use Prim.Native.Nat.{ℕ, ◌-◌, ◌<◌, ◌≤◌}
use native.Mathlib.Nat.{le_refl}
use native.Mathlib.Omega.{arith}
use Rattle.sdf.specs.Graph.{Graph}
use Rattle.sdf.specs.Order.{initial, Enabled, after, Legal, firings}
use Rattle.sdf.specs.Balance.{AtMost}
use Rattle.sdf.specs.Sum.{sum_to}
use Rattle.sdf.proofs.Numbers.{chosen}
use Rattle.sdf.proofs.Sum.{sum_mono}
use Rattle.sdf.proofs.Settle.{put, put_keeps, sum_raise}
use Rattle.sdf.proofs.Order.{one_more, firings_append, legal_append}

-- An order on its way: legal, and no actor fires more often than q.
pub record Run (g : Graph) (q : ℕ → ℕ) : Type 0 where
  pub order : List ℕ
  pub legal : Legal g (initial g) order
  pub within : AtMost g (λ v. firings v order) q

-- How many firings are missing.
abbrev pub missing : (g : Graph) (q : ℕ → ℕ) → Run g q → ℕ
missing g q r = sum_to q g.actors - sum_to (λ v. firings v r.order) g.actors

module _ (g : Graph) (q : ℕ → ℕ) where
  -- An actor that is short of its count and enabled fires.
  unfoldable pub go_on : (r : Run g q) (v : ℕ) → v < g.actors → firings v r.order < q v → Enabled g (after g (initial g) r.order) v → (t : Run g q) × (missing g q t < missing g q r)
  unfolding Legal firings
  go_on r v l short enabled =
      let x : ℕ → ℕ = λ w. firings w r.order in
      let y : ℕ → ℕ = λ w. firings w (r.order ++ (v ∷ [])) in
      let more : AtMost g x y = λ w m. omega (arith, firings_append w r.order (v ∷ [])) in
      let within : AtMost g y q = λ w m. omega (arith, firings_append w r.order (v ∷ []), one_more x q v w short (r.within w m)) in
      let up : x v < y v = omega (arith, firings_append v r.order (v ∷ []), chosen {a = v} 1 0 refl) in (
        record { order = r.order ++ (v ∷ []); legal = legal_append g (initial g) r.order (v ∷ []) r.legal (l, enabled, tt); within = within },
        omega (
          arith,
          sum_raise x v (y v) g.actors l up,
          sum_mono (put x v (y v)) y g.actors (λ w m. put_keeps (λ w n. n ≤ y w) x v (y v) (le_refl (y v)) w (more w m)),
          sum_mono y q g.actors within,
        ),
      )
