-- 01, Demand: once every actor has used up its skip, a graph's part of the demand is a straight line in the blocks due.
use mathlib.Core.Path.{◌≡◌, ◌∙◌, ap, sym}
use Prim.Native.Nat.{ℕ, ◌+◌, ◌*◌, ◌<◌, ◌≤◌}
use native.Mathlib.Nat.{sub-add_cancel, mul-le-mul_right, le_trans}
use native.Mathlib.Omega.{arith}
use Rattle.sdf.specs.Sum.{sum_to}
use Rattle.sdf.specs.Skip.{fewest}
use Rattle.sdf.proofs.Sum.{sum_ext, sum_add, sum_scale}
use Rattle.edf.specs.Demand.{Work, cost, iteration}

-- The time of the firings that are skipped.
abbrev pub skipped : Work → ℕ
skipped w = sum_to (λ v. w.time v * w.skip v) w.actors

-- In K iterations every actor fires at least its skip.
abbrev pub Straight : Work → ℕ → Type 0
Straight w K = (v : ℕ) → v < w.actors → w.skip v ≤ K * w.repetition v

-- From such a K on, the cost of K blocks is the time of K whole iterations less that of the skipped firings.
pub line : (w : Work) (K : ℕ) → Straight w K → cost w K + skipped w ≡ K * iteration w
unfolding cost iteration fewest
line w K h = sym (sum_add _ _ w.actors)
    ∙ sum_ext _ _ w.actors (λ v l. omega (arith, ap (λ (x : ℕ). w.time v * x) (sub-add_cancel (h v l))))
    ∙ sum_scale K _ w.actors

-- Straight at K, straight at every larger K.
pub line_onward : (w : Work) {K L : ℕ} → K ≤ L → Straight w K → Straight w L
line_onward w k h v l = le_trans (h v l) (mul-le-mul_right (w.repetition v) k)
