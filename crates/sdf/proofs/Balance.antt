-- 01, Balanced: the repetition vector is one, and it is found from below. Start at all ones; where a channel's two products
-- differ, raise the smaller side's actor to the quotient rounded up. No balanced vector is ever passed.
use mathlib.Core.Path.{◌≡◌, sym}
use mathlib.Core.Logic.{◌⊎◌, inl, inr, ⊎_elim, ◌↔◌}
use Prim.Native.Nat.{ℕ, suc, ◌+◌, ◌*◌, ◌-◌, ◌/◌, ◌<◌, ◌≤◌, suc-le-suc}
use native.Mathlib.Nat.{le_antisymm, mul-le-mul_right, div-lt_iff_lt-mul, le_of_suc-le-suc, lt_of_not-le, not-le_of_lt}
use native.Mathlib.Omega.{arith}
use Rattle.sdf.specs.Graph.{Graph, Sound}
use Rattle.sdf.specs.Balance.{Balanced, AtMost, Repetition, Balances}
use Rattle.sdf.specs.Sum.{sum_to}
use Rattle.sdf.proofs.Sum.{term_le_sum, sum_bound}
use Rattle.sdf.proofs.Numbers.{lt_or_ge}
use Rattle.sdf.proofs.Settle.{settle, first_fails, put, put_same, put_keeps, sum_raise}

-- Two repetition vectors of one graph agree on every actor.
pub repetition_one : (g : Graph) (q r : ℕ → ℕ) → Repetition g q → Repetition g r → (v : ℕ) → v < g.actors → q v ≡ r v
repetition_one g q r a b v l = le_antisymm (a.least r b.balanced v l) (b.least q a.balanced v l)

-- n / d, rounded up.
unfoldable pub round_up : ℕ → ℕ → ℕ
round_up n d = (n + (d - 1)) / d

-- The quotient rounded up is at most b exactly if n is at most b × d.
pub round_up_law : (n d b : ℕ) → 0 < d → (round_up n d ≤ b) ↔ (n ≤ b * d)
unfolding round_up
round_up_law n d b p =
    let k : (((n + (d - 1)) / d) < suc b) ↔ ((n + (d - 1)) < suc b * d) = div-lt_iff_lt-mul p in
    (λ h. omega (arith, k.0 (suc-le-suc h)), λ h. le_of_suc-le-suc (k.1 (omega arith)))

-- At one end of a channel a, at the other b, with equal products: what x at most a asks of the other end is at most b.
pub raise_law : (a b c p x : ℕ) → 0 < c → a * p ≡ b * c → x ≤ a → round_up (x * p) c ≤ b
raise_law a b c p x l e h = (round_up_law (x * p) c b l).1 (omega (arith, mul-le-mul_right p h))

-- Where the products differ, the smaller side's entry is below what the other side asks of it.
pub raise_rises : (c p x y : ℕ) → 0 < p → x * p < y * c → x < round_up (y * c) p
raise_rises c p x y l h = lt_of_not-le (λ k. not-le_of_lt h ((round_up_law (y * c) p x l).0 k))

-- Every balanced vector is at or above x on all actors.
abbrev pub Below : Graph → (ℕ → ℕ) → Type 0
Below g x = (y : ℕ → ℕ) → Balanced g y → AtMost g x y

module _ (g : Graph) where
  -- All ones are below every balanced vector.
  pub below_ones : Below g (λ _. 1)
  below_ones y b v l = b.positive v l

  below_put : (x : ℕ → ℕ) (v n : ℕ) → Below g x → ((y : ℕ → ℕ) → Balanced g y → n ≤ y v) → Below g (put x v n)
  below_put x v n below h y b w l = put_keeps (λ w n. n ≤ y w) x v n (h y b) w (below y b w l)

  -- A balanced vector below is the repetition vector.
  pub settled : (x : ℕ → ℕ) → Below g x → Balanced g x → Repetition g x
  settled x below b = record { balanced = b; least = below }

  -- An entry above the bound: no balanced vector is within it.
  pub past_bound : (x : ℕ → ℕ) (v bound : ℕ) → Below g x → v < g.actors → bound < x v → ¬ Balances g bound
  past_bound x v bound below l m b = omega (arith, below b.0 b.1 v l, b.2 v l)

module _ (g : Graph) (sound : Sound g) (x : ℕ → ℕ) (below : Below g x) (c : ℕ) (l : c < g.channels) where
  -- Raising a channel's head to what its tail asks keeps every balanced vector above.
  pub raise_head : Below g (put x (g.channel c).head (round_up (x (g.channel c).tail * (g.channel c).produce) (g.channel c).consume))
  raise_head = below_put g x _ _ below (λ y b. raise_law _ _ _ _ _ (sound.consume c l) (b.equal c l) (below y b _ (sound.tail c l)))

  -- Raising a channel's tail to what its head asks keeps every balanced vector above.
  pub raise_tail : Below g (put x (g.channel c).tail (round_up (x (g.channel c).head * (g.channel c).consume) (g.channel c).produce))
  raise_tail = below_put g x _ _ below (λ y b. raise_law _ _ _ _ _ (sound.produce c l) (sym (b.equal c l)) (below y b _ (sound.head c l)))

-- A vector on its way up: below every balanced vector, positive, within the bound.
record Rising (g : Graph) (bound : ℕ) : Type 0 where
  vector : ℕ → ℕ
  below : Below g vector
  positive : (v : ℕ) → v < g.actors → 0 < vector v
  within : AtMost g vector (λ _. bound)

abbrev Ended : (g : Graph) (bound : ℕ) → Rising g bound → Type 0
Ended g bound s = Balanced g s.vector ⊎ (¬ Balances g bound)

abbrev left : (g : Graph) (bound : ℕ) → Rising g bound → ℕ
left g bound s = g.actors * bound - sum_to s.vector g.actors

-- Two numbers are equal, or one is the smaller.
three_ways : (a b : ℕ) → (a ≡ b) ⊎ ((a < b) ⊎ (b < a))
three_ways a b = elim (lt_or_ge a b) [ inl l ↦ inr (inl l) | inr h ↦ elim (lt_or_ge b a) [ inl l ↦ inr (inr l) | inr k ↦ inl (le_antisymm k h) ] ]

module _ (g : Graph) (bound : ℕ) where
  -- A vector with one entry raised is within the bound again, or there is no balanced vector within it.
  raise : (s : Rising g bound) (v n : ℕ) → v < g.actors → s.vector v < n → Below g (put s.vector v n) → Ended g bound s ⊎ ((t : Rising g bound) × (left g bound t < left g bound s))
  raise s v n l m below =
      let x = put s.vector v n in
      let within : n ≤ bound → AtMost g x (λ _. bound) = λ h w k. put_keeps (λ _ n. n ≤ bound) s.vector v n h w (s.within w k) in
      elim (lt_or_ge bound n) [
        | inl h ↦ inl (inr (past_bound g x v bound below l (rw put_same h)))
        | inr h ↦ inr (
          record { vector = x; below = below; positive = λ w k. put_keeps (λ _ n. 0 < n) s.vector v n (omega arith) w (s.positive w k); within = within h },
          omega (arith, sum_raise s.vector v n g.actors l m, sum_bound x g.actors bound (within h)),
        )
      ]

  step : Sound g → (s : Rising g bound) → Ended g bound s ⊎ ((t : Rising g bound) × (left g bound t < left g bound s))
  step sound s =
      let x = s.vector in
      elim (first_fails (λ c. three_ways (x (g.channel c).tail * (g.channel c).produce) (x (g.channel c).head * (g.channel c).consume)) g.channels) [
        | inl all ↦ inl (inl (record { positive = s.positive; equal = all }))
        | inr f ↦ elim f.2 [
          | inl h ↦ raise s _ _ (sound.tail f.0 f.1) (raise_rises _ _ _ _ (sound.produce f.0 f.1) h) (raise_tail g sound x s.below f.0 f.1)
          | inr h ↦ raise s _ _ (sound.head f.0 f.1) (raise_rises _ _ _ _ (sound.consume f.0 f.1) h) (raise_head g sound x s.below f.0 f.1)
        ]
      ]

-- The repetition vector, where it is within the bound; or no balanced vector is.
unfoldable pub balances_or_not : (g : Graph) → Sound g → (bound : ℕ) → ((q : ℕ → ℕ) × Repetition g q × AtMost g q (λ _. bound)) ⊎ (¬ Balances g bound)
unfolding step raise three_ways settle first_fails lt_or_ge put round_up sum_to
balances_or_not g sound bound =
    elim (lt_or_ge 0 bound) [
      | inr z ↦ inr (past_bound g (λ _. 1) g.input bound (below_ones g) sound.input (omega arith))
      | inl h ↦
          let r = settle (Ended g bound) (left g bound) (step g bound sound) (record { vector = λ _. 1; below = below_ones g; positive = λ v l. omega arith; within = λ v l. h }) in
          elim r.1 [ inl b ↦ inl (r.0.vector, settled g r.0.vector r.0.below b, r.0.within) | inr n ↦ inr n ]
    ]

-- A graph with a balanced vector has a repetition vector.
pub repetition_exists : (g : Graph) (x : ℕ → ℕ) → Sound g → Balanced g x → (q : ℕ → ℕ) × Repetition g q
repetition_exists g x sound b =
    ⊎_elim (λ r. (r.0, r.1)) (λ n. absurd (n (x, b, term_le_sum x g.actors))) (balances_or_not g sound (sum_to x g.actors))
