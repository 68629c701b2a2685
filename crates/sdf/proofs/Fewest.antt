-- 01, Fewest firings: K × repetition − skip is the least number of firings of each actor in any legal order with K firings of
-- the output, and one legal order has the least number of every actor together.
use mathlib.Core.Path.{◌≡◌, sym, ap}
use mathlib.Core.Bool.{cond}
use mathlib.Core.Logic.{⊎_elim, ◌≢◌}
use mathlib.Core.List.{List, [], ◌∷◌}
use Prim.Native.Nat.{ℕ, ◌+◌, ◌*◌, ◌-◌, ◌<◌, ◌≤◌, zero-le}
use native.Mathlib.Nat.{le_refl, mul-le-mul_right}
use native.Mathlib.Omega.{arith}
use lib.Dec.{eqb, ltb}
use borrow.Author.Tests.{lt-ltb, le-ltb}
use Rattle.sdf.specs.Graph.{Graph, Sound}
use Rattle.sdf.specs.Order.{State, initial, Enabled, added, fire, Legal, firings, Fires, Lives}
use Rattle.sdf.specs.Balance.{Balanced}
use Rattle.sdf.specs.Skip.{Skippable, Skips, fewest}
use Rattle.sdf.proofs.Numbers.{lt_or_ge, eq_or_ne, sub_mul, passed}
use Rattle.sdf.proofs.Allowed.{allowed_product}
use Rattle.sdf.proofs.Order.{one_more, removed_times, added_times, removed_there, tokens_law, lives_times}

-- Where x and y meet a channel's inequality, what they leave of K iterations meets it with the ends exchanged.
short_of : (K tokens q r x p u y : ℕ) → q * r ≡ p * u → y * u ≤ tokens + x * r → (K * q - x) * r ≤ tokens + (K * p - y) * u
short_of K tokens q r x p u y equal h =
    rw (sub_mul (K * q) x r, sub_mul (K * p) y u) (omega (arith, ap (λ (n : ℕ). K * n) equal))

-- What a legal order with K firings of the output leaves of K iterations meets the skip constraints.
left_skippable : {g : Graph} {q : ℕ → ℕ} → Sound g → Balanced g q → q g.output ≡ 1 → (order : List ℕ) → Legal g (initial g) order
    → (K : ℕ) → firings g.output order ≡ K → Skippable g (λ v. K * q v - firings v order)
left_skippable {g} {q} sound balanced once order legal K outputs =
    record {
      output = omega (arith, ap (λ (n : ℕ). K * n) once);
      channel = λ c l.
          let e = g.channel c in
          let x = firings e.tail order in
          let y = firings e.head order in
          (allowed_product e (K * q e.tail - x) (K * q e.head - y) (sound.produce c l)).1
          (short_of K e.tokens (q e.tail) e.produce x (q e.head) e.consume y (balanced.equal c l)
          (omega (arith, tokens_law g (initial g) order legal c l)));
    }

-- A legal order with K firings of the output fires each actor at least K × repetition − skip times.
pub fewest_lower : {g : Graph} {q s : ℕ → ℕ} → Sound g → Balanced g q → q g.output ≡ 1 → Skips g s
    → (order : List ℕ) → Legal g (initial g) order → (K : ℕ) → firings g.output order ≡ K
    → (v : ℕ) → v < g.actors → fewest q s K v ≤ firings v order
unfolding fewest
fewest_lower {g} {q} sound balanced once skips order legal K outputs v l =
    let left = left_skippable sound balanced once order legal K outputs in
    omega (arith, skips.greatest (λ v. K * q v - firings v order) left v l)

-- One firing of v fewer.
abbrev less : (ℕ → ℕ) → ℕ → ℕ → ℕ
less m v w = m w - cond (eqb v w) 1 0

one_there : (m : ℕ → ℕ) (v w : ℕ) → 0 < m v → cond (eqb v w) 1 0 ≤ m w
one_there m v w some = omega (arith, one_more (λ _. 0) m v w some zero-le)

none_there : (m : ℕ → ℕ) (v w n : ℕ) → m v ≤ 0 → m w ≤ cond (eqb v w) 1 0 + n → m w ≤ n
none_there m v w n none h = ⊎_elim (λ e. omega (arith, ap m e)) (λ o. omega (arith, passed 1 0 o)) (eq_or_ne v w)

-- The order with only the first m v firings of each actor v.
keep : (ℕ → ℕ) → List ℕ → List ℕ
keep m [] = []
keep m (v ∷ order) = cond (ltb 0 (m v)) (v ∷ keep (less m v) order) (keep m order)

keep_firings : (m : ℕ → ℕ) (order : List ℕ) (w : ℕ) → m w ≤ firings w order → firings w (keep m order) ≡ m w
unfolding keep firings
keep_firings m [] w h = omega arith
keep_firings m (v ∷ order) w h =
    ⊎_elim
    (λ some. rw (lt-ltb 0 (m v) some) (omega (arith, keep_firings (less m v) order w (omega arith), one_there m v w some)))
    (λ none. rw (le-ltb 0 (m v) none) (keep_firings m order w (none_there m v w (firings w order) none h)))
    (lt_or_ge 0 (m v))

-- With m still to keep: the kept order's state t has what its firings to come ask for, and where more of a channel's tail is to
-- come it lacks nothing that the whole order's state s has.
record Kept (g : Graph) (m : ℕ → ℕ) (s t : State) : Type 0 where
  enough : (c : ℕ) → c < g.channels → m (g.channel c).head * (g.channel c).consume ≤ t c + m (g.channel c).tail * (g.channel c).produce
  level : (c : ℕ) → c < g.channels → 0 < m (g.channel c).tail → s c ≤ t c

module _ (g : Graph) (m : ℕ → ℕ) (s t : State) (v : ℕ) (kept : Kept g m s t) where
  kept_enabled : 0 < m v → Enabled g s v → Enabled g t v
  kept_enabled some enabled c l h =
      let e = g.channel c in
      ⊎_elim
      (λ more. omega (arith, enabled c l h, kept.level c l more))
      (λ none. omega (
        arith,
        rw h at (kept.enough c l),
        mul-le-mul_right e.produce none,
        mul-le-mul_right e.consume some,
      ))
      (lt_or_ge 0 (m e.tail))

  kept_fired : 0 < m v → Enabled g s v → Kept g (less m v) (fire g s v) (fire g t v)
  unfolding fire
  kept_fired some enabled =
      record {
        enough = λ c l.
            let e = g.channel c in
            rw (sub_mul (m e.head), sub_mul (m e.tail))
            (omega (
              arith,
              kept.enough c l,
              removed_times e v 1,
              added_times e v 1,
              removed_there g t v (kept_enabled some enabled) c l,
              mul-le-mul_right e.produce (one_there m v e.tail some),
            ));
        level = λ c l more. omega (arith, kept.level c l (omega arith));
      }

  kept_left_out : m v ≤ 0 → Kept g m (fire g s v) t
  unfolding fire added
  kept_left_out none =
      record {
        enough = kept.enough;
        level = λ c l more.
            let e = g.channel c in
            let other : e.tail ≢ v = λ same. omega (arith, ap m same) in
            omega (arith, kept.level c l more, passed e.produce 0 other);
      }

keep_legal : (g : Graph) (m : ℕ → ℕ) (s t : State) (order : List ℕ) → Kept g m s t → Legal g s order → Legal g t (keep m order)
unfolding keep Legal
keep_legal g m s t [] kept legal = tt
keep_legal g m s t (v ∷ order) kept (actor, enabled, legal) =
    ⊎_elim
    (λ some. rw (lt-ltb 0 (m v) some) (actor, kept_enabled g m s t v kept some enabled, keep_legal g (less m v) (fire g s v) (fire g t v) order (kept_fired g m s t v kept some enabled) legal))
    (λ none. rw (le-ltb 0 (m v) none) (keep_legal g m (fire g s v) t order (kept_left_out g m s t v kept none) legal))
    (lt_or_ge 0 (m v))

fewest_kept : {g : Graph} {q s : ℕ → ℕ} → Sound g → Balanced g q → Skippable g s → (K : ℕ) → Kept g (fewest q s K) (initial g) (initial g)
unfolding fewest
fewest_kept {g} {q} {s} sound balanced skippable K =
    record {
      enough = λ c l.
          let e = g.channel c in
          let x = s e.tail in
          let y = s e.head in
          short_of K e.tokens (q e.head) e.consume y (q e.tail) e.produce x (sym (balanced.equal c l))
          ((allowed_product e x y (sound.produce c l)).0 (skippable.channel c l));
      level = λ c l more. le_refl (initial g c);
    }

-- One legal order fires every actor exactly K × repetition − skip times.
pub fewest_together : {g : Graph} {q s : ℕ → ℕ} → Sound g → Balanced g q → Lives g q → Skippable g s → (K : ℕ)
    → (order : List ℕ) × Legal g (initial g) order × Fires g (fewest q s K) order
unfolding fewest
fewest_together {g} {q} {s} sound balanced lives skippable K =
    let (order, legal, fires) = lives_times sound q balanced.equal lives K in
    let m = fewest q s K in (
      keep m order,
      keep_legal g m (initial g) (initial g) order (fewest_kept sound balanced skippable K) legal,
      λ v l. keep_firings m order v (omega (arith, fires v l)),
    )

-- The least numbers of firings with K firings of the output: one legal order has them all, and none has fewer of any actor.
pub fewest_minimum : {g : Graph} {q s : ℕ → ℕ} → Sound g → Balanced g q → q g.output ≡ 1 → Lives g q → Skips g s → (K : ℕ)
    → ((order : List ℕ) × Legal g (initial g) order × Fires g (fewest q s K) order × (firings g.output order ≡ K))
    × ((order : List ℕ) → Legal g (initial g) order → firings g.output order ≡ K → (v : ℕ) → v < g.actors → fewest q s K v ≤ firings v order)
unfolding fewest
fewest_minimum {g} sound balanced once lives skips K =
    let (order, legal, fires) = fewest_together sound balanced lives skips.skippable K in
    let outputs : firings g.output order ≡ K = omega (arith, fires g.output sound.output, ap (λ (n : ℕ). K * n) once, skips.skippable.output) in
    ((order, legal, fires, outputs), λ order legal outputs. fewest_lower sound balanced once skips order legal K outputs)
