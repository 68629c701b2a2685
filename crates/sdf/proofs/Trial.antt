-- 01, Deadlock: the trial run decides. Where a legal order has stuck, short of the repetition numbers, no legal order reaches
-- them; and an actor may fire several times in one visit.
use mathlib.Core.Path.{◌≡◌, refl, ◌∙◌, ap}
use mathlib.Core.Bool.{Bool, true, false, cond}
use mathlib.Core.Logic.{⊎_elim, ◌≢◌}
use mathlib.Core.List.{List, [], ◌∷◌, ◌++◌, append_assoc}
use Prim.Native.Nat.{ℕ, zero, suc, ◌+◌, ◌*◌, ◌<◌, ◌≤◌}
use native.Mathlib.Nat.{mul-le-mul_right}
use native.Mathlib.Omega.{arith}
use lib.Dec.{eqb}
use lib.ListN.{replicate}
use Rattle.sdf.specs.Graph.{Graph, Sound}
use Rattle.sdf.specs.Order.{State, initial, Enabled, removed, added, fire, after, Legal, firings, Deadlock}
use Rattle.sdf.specs.Balance.{AtMost}
use Rattle.sdf.proofs.Numbers.{lt_or_ge, eq_or_ne, chosen}
use Rattle.sdf.proofs.Order.{one_more, removed_times, added_times, tokens_law, firings_append, legal_take_apart}

-- An actor enabled after one order is enabled after another that fires it as often and every other actor no less.
pub enabled_later : {g : Graph} → Sound g → (s : State) (a b : List ℕ) (v : ℕ) → Legal g s a → Legal g s b → firings v a ≡ firings v b
    → ((w : ℕ) → w < g.actors → w ≢ v → firings w a ≤ firings w b) → Enabled g (after g s a) v → Enabled g (after g s b) v
enabled_later {g} sound s a b v legal-a legal-b same more enabled c l h =
    let e = g.channel c in
    let tail : firings e.tail a ≤ firings e.tail b = ⊎_elim (λ t. rw t (omega arith)) (more e.tail (sound.tail c l)) (eq_or_ne e.tail v) in
    omega (
      arith,
      enabled c l h,
      rw h at (tokens_law g s a legal-a c l),
      rw h at (tokens_law g s b legal-b c l),
      ap (λ (n : ℕ). n * e.consume) same,
      mul-le-mul_right e.produce tail,
    )

module _ {g : Graph} (sound : Sound g) (s : State) (q : ℕ → ℕ) (a b : List ℕ) (legal-a : Legal g s a) (legal-b : Legal g s b)
    (ended : (v : ℕ) → v < g.actors → firings v a < q v → ¬ Enabled g (after g s a) v) (within : AtMost g (λ v. firings v b) q) where
  next_short : (done : List ℕ) (w : ℕ) (rest : List ℕ) → done ++ (w ∷ rest) ≡ b → AtMost g (λ v. firings v done) (λ v. firings v a) → firings w done < firings w a
  unfolding firings Legal
  next_short done w rest e most =
      let (legal, (actor, enabled, _)) = legal_take_apart g s done (w ∷ rest) (rw e legal-b) in
      let all : firings w done + firings w (w ∷ rest) ≤ q w = rw (← (firings_append w done (w ∷ rest)), e) (within w actor) in
      let later : firings w a ≤ firings w done → Enabled g (after g s a) w = λ full. enabled_later sound s done a w legal legal-a (omega (arith, most w actor)) (λ v l _. most v l) enabled in
      ⊎_elim (λ short. short) (λ full. absurd (ended w actor (omega (arith, chosen {a = w} 1 0 refl)) (later full))) (lt_or_ge (firings w done) (firings w a))

  part_by_part : (done rest : List ℕ) → done ++ rest ≡ b → AtMost g (λ v. firings v done) (λ v. firings v a) → AtMost g (λ v. firings v b) (λ v. firings v a)
  unfolding firings
  part_by_part done [] e most = λ v l. rw (← e, firings_append v done []) (omega (arith, most v l))
  part_by_part done (w ∷ rest) e most =
      let short = next_short done w rest e most in
      part_by_part (done ++ (w ∷ [])) rest (append_assoc done (w ∷ []) rest ∙ e)
      (λ v l. rw (firings_append v done (w ∷ [])) (omega (arith, one_more (λ x. firings x done) (λ x. firings x a) w v short (most v l))))

  -- Of two legal orders, a ended short of the counts q and b within q, b fires no actor more often than a.
  pub ended_most : (v : ℕ) → v < g.actors → firings v b ≤ firings v a
  unfolding firings
  ended_most = part_by_part [] b refl (λ v l. omega arith)

-- A legal order after which no actor short of its number q is enabled, with some actor still short, shows deadlock.
pub stuck : {g : Graph} → Sound g → (q : ℕ → ℕ) (order : List ℕ) → Legal g (initial g) order
    → ((v : ℕ) → v < g.actors → firings v order < q v → ¬ Enabled g (after g (initial g) order) v)
    → (v : ℕ) → v < g.actors → firings v order < q v → Deadlock g q
stuck {g} sound q order legal ended v l short (other, legal-other, fires) =
    omega (arith, ended_most sound (initial g) q order other legal legal-other ended (λ w m. omega (arith, fires w m)) v l, fires v l)

-- v may fire k times in a row if channels from others hold enough for all k and its own for one, which it puts back.
pub batch : (g : Graph) (s : State) (v k : ℕ) → v < g.actors
    → ((c : ℕ) → c < g.channels → (g.channel c).head ≡ v → (g.channel c).tail ≢ v → k * (g.channel c).consume ≤ s c)
    → ((c : ℕ) → c < g.channels → (g.channel c).head ≡ v → (g.channel c).tail ≡ v → (0 < k → (g.channel c).consume ≤ s c) × ((g.channel c).consume ≤ (g.channel c).produce))
    → Legal g s (replicate k v)
unfolding Legal fire removed added
batch g s v zero actor others own = tt
batch g s v (suc k) actor others own = (
  actor,
  λ c l h. ⊎_elim (λ t. (own c l h t).0 (omega arith)) (λ n. omega (arith, others c l h n)) (eq_or_ne (g.channel c).tail v),
  batch g (fire g s v) v k actor
      (λ c l h n. omega (arith, others c l h n, chosen (g.channel c).consume 0 h))
      (λ c l h t. (λ _. omega (arith, (own c l h t).1, chosen (g.channel c).produce 0 t), (own c l h t).1)),
)

once_each : (t : Bool) (k : ℕ) → k * cond t 1 0 ≡ cond t k 0
once_each true k = omega arith
once_each false k = omega arith

in_a_row : (w v k : ℕ) → firings w (replicate k v) ≡ k * cond (eqb v w) 1 0
unfolding firings
in_a_row w v zero = omega arith
in_a_row w v (suc k) = omega (arith, in_a_row w v k)

-- Firing v k times in a row fires v k times and no other actor.
pub batch_firings : (w v k : ℕ) → firings w (replicate k v) ≡ cond (eqb v w) k 0
batch_firings w v k = in_a_row w v k ∙ once_each (eqb v w) k

-- Firing v k times in a row removes and adds k times what one firing does.
pub batch_after : (g : Graph) (s : State) (v k : ℕ) → Legal g s (replicate k v) → (c : ℕ) → c < g.channels
    → after g s (replicate k v) c + k * removed (g.channel c) v ≡ s c + k * added (g.channel c) v
batch_after g s v k legal c l =
    let e = g.channel c in
    omega (
      arith,
      rw (batch_firings e.tail v k, batch_firings e.head v k) at (tokens_law g s (replicate k v) legal c l),
      removed_times e v k,
      added_times e v k,
    )
