-- 01, answer 21, where it takes many looks: what a table over one cycle leaves of every length, and how it is filled.
use mathlib.Core.Path.{◌≡◌, ap}
use mathlib.Core.Logic.{⊎_elim}
use mathlib.Core.List.{List}
use Prim.Native.Nat.{ℕ, zero, suc, ◌+◌, ◌*◌, ◌/◌, ◌%◌, ◌<◌, ◌≤◌}
use native.Mathlib.Nat.{mul-le-mul_right, min-le_left, min-le_right, mod-lt, mod-add-div', zero-mul, suc-mul, add-zero, add_assoc}
use native.Mathlib.Omega.{arith}
use lib.ListN.{length, get_or}
use Rattle.sdf.proofs.Numbers.{lt_or_ge, div_mono}
use Rattle.edf.specs.Demand.{Works, demand, load}
use Rattle.late.specs.Cycle.{Floors, floor_at}
use Rattle.late.specs.Search.{Carries}
use Rattle.late.proofs.Ending.{demand_span}

-- n cycles more of length add at most n cycles' load.
demand_spans : (ws : Works) {P : ℕ} → Carries ws P P → (r n : ℕ) → demand ws (r + n * P) ≤ demand ws r + n * load ws P
demand_spans ws {P} m r zero = rw (zero-mul P, add-zero r) (omega arith)
demand_spans ws {P} m r (suc n) = rw (suc-mul n P, ← add_assoc r (n * P) P)
    (omega (arith, demand_span ws m (r + n * P), demand_spans ws m r n))

-- From every length on, demand leaves what the table says.
pub floors_leave : (ws : Works) {P : ℕ} (rest : ℕ) (floors : List ℕ) → Carries ws P P → Floors ws P floors → load ws P + rest ≡ P → (a t : ℕ)
    → a ≤ t → demand ws t + floor_at P rest floors a ≤ t
floors_leave ws {P} rest floors m table whole a t h =
    let here = get_or floors (a % P) 0 in
    let next = rest + get_or floors 0 0 in
    let grows = rw (mod-add-div' t P) at (demand_spans ws m (t % P) (t / P)) in
    let cycles = ap (λ (x : ℕ). t / P * x) whole in
    let low = mod-lt t m.positive in
    ⊎_elim
    (λ (l : a / P < t / P). omega (
      arith,
      grows,
      cycles,
      mod-add-div' t P,
      min-le_right here next,
      table 0 (t % P) (omega arith) low,
      mul-le-mul_right rest l,
    ))
    (λ (l : t / P ≤ a / P).
    let same : a / P ≡ t / P = omega (arith, div_mono P h) in
    let after : a % P ≤ t % P = omega (arith, mod-add-div' t P, mod-add-div' a P, ap (λ (x : ℕ). x * P) same) in
    omega (
      arith,
      grows,
      cycles,
      mod-add-div' t P,
      min-le_left here next,
      table (a % P) (t % P) after low,
      ap (λ (x : ℕ). x * rest) same,
    ))
    (lt_or_ge (a / P) (t / P))

-- The table is filled from `at` on, and `least` is what demand leaves at least from there on to the end of the cycle.
pub record Filling (ws : Works) (cycle least at : ℕ) (floors : List ℕ) : Type 0 where
  pub there : cycle ≤ length floors
  pub low : at ≤ cycle
  pub least_high : least ≤ cycle
  pub least_left : (t : ℕ) → at ≤ t → t < cycle → demand ws t + least ≤ t
  pub left : (a t : ℕ) → at ≤ a → a ≤ t → t < cycle → demand ws t + get_or floors a 0 ≤ t
