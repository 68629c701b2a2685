-- 01, Skip numbers: the greatest vector that the channels allow is one, and it is found from above. Start at what the
-- channels along each actor's path to the output allow; where a tail is above what its channel allows, lower it.
use mathlib.Core.Path.{◌≡◌, refl, ap}
use mathlib.Core.Logic.{◌⊎◌, inl, inr, ⊎_elim, ⊎_swap}
use mathlib.Core.List.{List, [], ◌∷◌}
use Prim.Native.Nat.{ℕ, ◌+◌, ◌*◌, ◌/◌, ◌^◌, min, max, ◌<◌, ◌≤◌, zero-le}
use native.Mathlib.Nat.{le_refl, le_antisymm, le_trans, mul-le-mul, mul-le-mul_right, mul-pos, le-mul_of_pos_right, div-le_of_le-mul, div-mul-le_self, le-div_iff_mul-le, div-zero, eq-zero-or-pos, le-min, min-le_left, le_of_lt, not-le_of_lt, max-le, le-max_left, le-max_right}
use native.Mathlib.Omega.{arith}
use lib.ListN.{length}
use Rattle.units.specs.Bounds.{engine_actors, max_tokens, max_repetition, max_rate}
use Rattle.sdf.specs.Graph.{Graph, Channel, Sound, Along, Reached}
use Rattle.sdf.specs.Balance.{Balanced, AtMost}
use Rattle.sdf.specs.Skip.{allowed, Skippable, Skips}
use Rattle.sdf.specs.Sum.{sum_to}
use Rattle.sdf.proofs.Numbers.{lt_or_ge}
use Rattle.sdf.proofs.Settle.{settle, first_fails, put, put_same, put_keeps, sum_lower}
use Rattle.sdf.proofs.Reach.{reach_short}

div_mono : (n m k : ℕ) → n ≤ m → n / k ≤ m / k
div_mono n m k h =
    ⊎_elim
    (λ z. rw z (rw (div-zero n) zero-le))
    (λ p. (le-div_iff_mul-le {x = n / k} {y = m} p).1 (le_trans (div-mul-le_self n k) h))
    (eq-zero-or-pos k)

-- A channel allows its tail no less where the head skips no less.
pub allowed_mono : (e : Channel) (a b : ℕ) → a ≤ b → allowed e a ≤ allowed e b
unfolding allowed
allowed_mono e a b h = div_mono _ _ e.produce (omega (arith, mul-le-mul_right e.consume h))

module _ (g : Graph) where
  -- Nothing skipped is skippable.
  pub skippable_zero : Skippable g (λ _. 0)
  skippable_zero = record { output = refl; channel = λ c l. zero-le }

  -- The larger of two skippable vectors is skippable.
  pub skippable_max : (x y : ℕ → ℕ) → Skippable g x → Skippable g y → Skippable g (λ v. max (x v) (y v))
  skippable_max x y a b =
      record {
        output = omega (arith, a.output, b.output);
        channel = λ c l.
            let e = g.channel c in
            max-le
            (le_trans (a.channel c l) (allowed_mono e _ _ (le-max_left (x e.head) (y e.head))))
            (le_trans (b.channel c l) (allowed_mono e _ _ (le-max_right (x e.head) (y e.head))));
      }

  -- Two skip vectors of one graph agree on every actor.
  pub skips_one : (s t : ℕ → ℕ) → Skips g s → Skips g t → (v : ℕ) → v < g.actors → s v ≡ t v
  skips_one s t a b v l = le_antisymm (b.greatest s a.skippable v l) (a.greatest t b.skippable v l)

  -- What a channel allows a head of at most b, no skippable vector has more at the tail.
  pub relax_law : (x : ℕ → ℕ) (c b : ℕ) → Skippable g x → c < g.channels → x (g.channel c).head ≤ b → x (g.channel c).tail ≤ allowed (g.channel c) b
  relax_law x c b s l h = le_trans (s.channel c l) (allowed_mono (g.channel c) _ _ h)

-- Every skippable vector is at or below u on all actors.
abbrev pub Above : Graph → (ℕ → ℕ) → Type 0
Above g u = (x : ℕ → ℕ) → Skippable g x → AtMost g x u

module _ (g : Graph) where
  above_put : (u : ℕ → ℕ) (v n : ℕ) → Above g u → ((x : ℕ → ℕ) → Skippable g x → x v ≤ n) → Above g (put u v n)
  above_put u v n above h x s w l = put_keeps (λ w n. x w ≤ n) u v n (h x s) w (above x s w l)

  -- Lowering a channel's tail to what the channel allows keeps every skippable vector below.
  pub relax : (u : ℕ → ℕ) (c : ℕ) → Sound g → Above g u → c < g.channels → Above g (put u (g.channel c).tail (min (u (g.channel c).tail) (allowed (g.channel c) (u (g.channel c).head))))
  relax u c sound above l = above_put u _ _ above (λ x s. le-min (above x s _ (sound.tail c l)) (relax_law g x c _ s l (above x s _ (sound.head c l))))

  -- A skippable vector above is the skip vector.
  pub settled_skips : (u : ℕ → ℕ) → Above g u → Skippable g u → Skips g u
  settled_skips u above s = record { skippable = s; greatest = above }

  -- A head of at most k × M × its repetition number: the channel allows its tail at most (k + 1) × M × its own.
  pub skip_step_bound : (q : ℕ → ℕ) (c k M u : ℕ) → Sound g → Balanced g q → c < g.channels → (g.channel c).tokens ≤ M → u ≤ k * M * q (g.channel c).head → allowed (g.channel c) u ≤ (k + 1) * M * q (g.channel c).tail
  unfolding allowed
  skip_step_bound q c k M u sound b l t h =
      let e = g.channel c in
      div-le_of_le-mul e.produce (omega (
        arith,
        t,
        mul-le-mul_right e.consume h,
        ap (λ (x : ℕ). k * M * x) (b.equal c l),
        le-mul_of_pos_right M (mul-pos (b.positive e.tail (sound.tail c l)) (sound.produce c l)),
      ))

-- Within the bounds of an engine's graph, what a channel allows is computed in 64 bits.
pub skip_step_fits : (e : Channel) (k n u : ℕ) → k ≤ engine_actors → n ≤ max_repetition → e.tokens ≤ max_tokens → e.consume ≤ max_rate → u ≤ k * max_tokens * n → e.tokens + u * e.consume < 2 ^ 64
skip_step_fits e k n u hk hn ht hc h =
    let a : u ≤ engine_actors * max_tokens * max_repetition = omega (arith, mul-le-mul hk hn) in
    omega (arith, mul-le-mul a hc)

-- What the channels of a path that ends at the output allow, one after the other.
allowed_along : Graph → List ℕ → ℕ
allowed_along g [] = 0
allowed_along g (c ∷ path) = allowed (g.channel c) (allowed_along g path)

along_above : (g : Graph) (x : ℕ → ℕ) → Skippable g x → (path : List ℕ) (v : ℕ) → Along g v path g.output → x v ≤ allowed_along g path
unfolding Along allowed_along
along_above g x s [] v a = omega (arith, ap x a, s.output)
along_above g x s (c ∷ path) v a = rw (← a.1) (relax_law g x c _ s a.0 (along_above g x s path (g.channel c).head a.2))

-- A vector on its way down: above every skippable vector, and 0 at the output.
record Falling (g : Graph) : Type 0 where
  vector : ℕ → ℕ
  above : Above g vector
  output : vector g.output ≤ 0

abbrev Allowed : (g : Graph) → Falling g → Type 0
Allowed g s = (c : ℕ) → c < g.channels → s.vector (g.channel c).tail ≤ allowed (g.channel c) (s.vector (g.channel c).head)

abbrev total : (g : Graph) → Falling g → ℕ
total g s = sum_to s.vector g.actors

-- Each actor at what its path allows, the output at 0.
highest : (g : Graph) → Reached g → Falling g
highest g reached =
    record {
      vector = put first g.output 0;
      above = above_put g first g.output 0 (λ x s w l. first_above x s w l (lt_or_ge w g.actors)) (λ x s. omega (arith, s.output));
      output = rw put_same zero-le;
    }
  where
    at : (w : ℕ) → (w < g.actors) ⊎ (g.actors ≤ w) → ℕ
    at w (inl l) = allowed_along g (reached w l).1.0
    at w (inr n) = 0

    first : ℕ → ℕ
    first w = at w (lt_or_ge w g.actors)

    first_above : (x : ℕ → ℕ) → Skippable g x → (w : ℕ) → w < g.actors → (d : (w < g.actors) ⊎ (g.actors ≤ w)) → x w ≤ at w d
    first_above x s w l (inl k) = along_above g x s (reached w k).1.0 w (reached w k).1.1
    first_above x s w l (inr n) = absurd (not-le_of_lt l n)

module _ (g : Graph) (sound : Sound g) where
  lower : (s : Falling g) (c : ℕ) → c < g.channels → allowed (g.channel c) (s.vector (g.channel c).head) < s.vector (g.channel c).tail → (t : Falling g) × (total g t < total g s)
  lower s c l h =
      let u = s.vector in
      let v = (g.channel c).tail in
      let n = min (u v) (allowed (g.channel c) (u (g.channel c).head)) in (
        record {
          vector = put u v n;
          above = relax g u c sound s.above l;
          output = le_trans (put_keeps (λ w n. n ≤ u w) u v n (min-le_left _ _) g.output (le_refl _)) s.output;
        },
        sum_lower u v n g.actors (sound.tail c l) (omega arith),
      )

  step : (s : Falling g) → Allowed g s ⊎ ((t : Falling g) × (total g t < total g s))
  step s =
      elim (first_fails (λ c. ⊎_swap (lt_or_ge (allowed (g.channel c) (s.vector (g.channel c).head)) (s.vector (g.channel c).tail))) g.channels) [
        | inl all ↦ inl all
        | inr f ↦ inr (lower s f.0 f.1 f.2)
      ]

-- Where every actor reaches the output there is a skip vector.
unfoldable pub skips_exist : (g : Graph) → Sound g → Reached g → (s : ℕ → ℕ) × Skips g s
unfolding step lower highest allowed_along along_above above_put allowed settle first_fails lt_or_ge put sum_to ⊎_swap
skips_exist g sound reached =
    let r = settle (Allowed g) (total g) (step g sound) (highest g reached) in
    (r.0.vector, settled_skips g r.0.vector r.0.above (record { output = omega (arith, r.0.output); channel = r.1 }))

along_bounded : (g : Graph) (q x : ℕ → ℕ) (M : ℕ) → Sound g → Balanced g q → ((c : ℕ) → c < g.channels → (g.channel c).tokens ≤ M) → Skippable g x → (path : List ℕ) (v : ℕ) → Along g v path g.output → x v ≤ length path * M * q v
unfolding Along
along_bounded g q x M sound b t s [] v a = omega (arith, ap x a, s.output)
along_bounded g q x M sound b t s (c ∷ path) v a =
    rw (← a.1) (omega (
      arith,
      s.channel c a.0,
      skip_step_bound g q c (length path) M (x (g.channel c).head) sound b a.0 (t c a.0) (along_bounded g q x M sound b t s path (g.channel c).head a.2),
    ))

-- Of a balanced graph with at most M tokens on a channel, no skip number is above actors × M × the repetition number.
pub skips_bounded : (g : Graph) (q s : ℕ → ℕ) (M : ℕ) → Sound g → Reached g → Balanced g q → ((c : ℕ) → c < g.channels → (g.channel c).tokens ≤ M) → Skips g s → (v : ℕ) → v < g.actors → s v ≤ g.actors * M * q v
skips_bounded g q s M sound reached b t k v l =
    let p = reach_short g v g.output sound l (reached v l).1 in
    le_trans (along_bounded g q s M sound b t k.skippable p.0 v p.1) (mul-le-mul_right (q v) (mul-le-mul_right M (le_of_lt p.2)))
