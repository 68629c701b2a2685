-- The conditions of document 01 on a graph, each decided: it holds or it does not. On small closed graphs the decisions
-- compute.
use mathlib.Core.Path.{◌≡◌}
use mathlib.Core.Bool.{Bool, true, false}
use mathlib.Core.Logic.{◌⊎◌, inl, inr, ⊎_swap}
use mathlib.Core.List.{[]}
use Prim.Native.Nat.{ℕ, suc, ◌<◌, ◌≤◌}
use native.Mathlib.Nat.{le_antisymm}
use native.Mathlib.Omega.{arith}
use lib.Dec.{T}
use Rattle.sdf.specs.Graph.{Graph, Sound, Reached}
use Rattle.sdf.specs.Order.{State, initial, Enabled, removed, added, fire, after, Legal, firings, Lives, Deadlock, AtRest}
use Rattle.sdf.specs.Balance.{Repetition, Once}
use Rattle.sdf.specs.Skip.{Skips}
use Rattle.sdf.specs.Sum.{sum_to}
use Rattle.sdf.proofs.Numbers.{lt_or_ge, eq_or_ne}
use Rattle.sdf.proofs.Sum.{term_le_sum}
use Rattle.sdf.proofs.Settle.{settle, first_fails}
use Rattle.sdf.proofs.Runs.{Run, missing, go_on}
use Rattle.sdf.proofs.Trial.{stuck}
use Rattle.sdf.proofs.Balance.{balances_or_not, repetition_one}
use Rattle.sdf.proofs.Skip.{skips_exist, skips_one}

-- A holds or it does not.
abbrev pub Decided : Type 0 → Type 0
Decided A = A ⊎ (¬ A)

-- Whether the decision says that the statement holds.
unfoldable pub test : {A : Type 0} → Decided A → Bool
test d = elim d [ inl a ↦ true | inr n ↦ false ]

-- A statement that the decision says holds does hold.
pub test_right : {A : Type 0} (d : Decided A) → T (test d) → A
unfolding test
test_right (inl a) t = a
test_right (inr n) t = absurd t

module _ {A B : Type 0} where
  -- Of two statements that follow from each other, one is decided with the other.
  unfoldable pub same_or_not : (A → B) → (B → A) → Decided A → Decided B
  same_or_not f h d = elim d [ inl a ↦ inl (f a) | inr n ↦ inr (λ b. n (h b)) ]

  -- Two statements, the second decided where the first holds, are decided together.
  unfoldable pub then_or_not : Decided A → (A → Decided B) → Decided (A × B)
  then_or_not d e = elim d [ inl a ↦ elim (e a) [ inl b ↦ inl (a, b) | inr n ↦ inr (λ p. n p.1) ] | inr n ↦ inr (λ p. n p.0) ]

  -- Two decided statements are decided together.
  unfoldable pub both_or_not : Decided A → Decided B → Decided (A × B)
  unfolding then_or_not
  both_or_not d e = then_or_not d (λ _. e)

  -- Whether one decided statement implies another is decided.
  unfoldable pub implies_or_not : Decided A → Decided B → Decided (A → B)
  implies_or_not d e = elim d [ inl a ↦ elim e [ inl b ↦ inl (λ _. b) | inr n ↦ inr (λ f. n (f a)) ] | inr n ↦ inl (λ a. absurd (n a)) ]

-- The negation of a decided statement is decided.
unfoldable pub fails_or_not : {A : Type 0} → Decided A → Decided (¬ A)
fails_or_not d = elim d [ inl a ↦ inr (λ n. n a) | inr n ↦ inl n ]

-- What is decided at each number is decided of all numbers below n.
unfoldable pub all_or_not : {P : ℕ → Type 0} → ((i : ℕ) → Decided (P i)) → (n : ℕ) → Decided ((i : ℕ) → i < n → P i)
unfolding first_fails
all_or_not each n = elim (first_fails each n) [ inl all ↦ inl all | inr f ↦ inr (λ all. f.2 (all f.0 f.1)) ]

-- One number is at most another, or not.
unfoldable pub le_or_not : (a b : ℕ) → Decided (a ≤ b)
unfolding lt_or_ge
le_or_not a b = elim (lt_or_ge b a) [ inl l ↦ inr (λ h. omega arith) | inr h ↦ inl h ]

-- 01, The graph: an actor is enabled, or not.
unfoldable pub enabled_or_not : (g : Graph) (s : State) (v : ℕ) → Enabled g s v ⊎ (¬ Enabled g s v)
unfolding all_or_not implies_or_not eq_or_ne le_or_not
enabled_or_not g s v = all_or_not (λ c. implies_or_not (eq_or_ne (g.channel c).head v) (le_or_not (g.channel c).consume (s c))) g.channels

-- 01, answer 6: input, output and the channels' ends are actors and no rate is 0, or not.
unfoldable pub sound_or_not : (g : Graph) → Sound g ⊎ (¬ Sound g)
unfolding same_or_not both_or_not all_or_not le_or_not
sound_or_not g =
    let below : (f : ℕ → ℕ) → Decided ((c : ℕ) → c < g.channels → f c < g.actors) = λ f. all_or_not (λ c. le_or_not (suc (f c)) g.actors) g.channels in
    let above : (f : ℕ → ℕ) → Decided ((c : ℕ) → c < g.channels → 0 < f c) = λ f. all_or_not (λ c. le_or_not 1 (f c)) g.channels in
    same_or_not
    (λ p. record { input = p.0.0; output = p.0.1; tail = p.1.0.0; head = p.1.0.1; produce = p.1.1.0; consume = p.1.1.1 })
    (λ s. ((s.input, s.output), ((s.tail, s.head), (s.produce, s.consume))))
    (both_or_not
    (both_or_not (le_or_not (suc g.input) g.actors) (le_or_not (suc g.output) g.actors))
    (both_or_not
    (both_or_not (below (λ c. (g.channel c).tail)) (below (λ c. (g.channel c).head)))
    (both_or_not (above (λ c. (g.channel c).produce)) (above (λ c. (g.channel c).consume)))))

-- 01, At rest: a graph is at rest, or not.
unfoldable pub rest_or_not : (g : Graph) → AtRest g ⊎ (¬ AtRest g)
unfolding all_or_not implies_or_not fails_or_not eq_or_ne enabled_or_not
rest_or_not g =
    all_or_not (λ v. implies_or_not (fails_or_not (eq_or_ne v g.input)) (fails_or_not (enabled_or_not g (initial g) v))) g.actors

-- 01, answer 9: input and output fire once in an iteration, or not.
unfoldable pub once_or_not : (g : Graph) (q : ℕ → ℕ) → Once g q ⊎ (¬ Once g q)
unfolding same_or_not both_or_not eq_or_ne
once_or_not g q =
    same_or_not (λ p. record { input = p.0; output = p.1 }) (λ o. (o.input, o.output)) (both_or_not (eq_or_ne (q g.input) 1) (eq_or_ne (q g.output) 1))

module _ (g : Graph) (sound : Sound g) (x : ℕ → ℕ) where
  -- 01, Balanced: x is the repetition vector, or not.
  unfoldable pub repetition_or_not : Repetition g x ⊎ (¬ Repetition g x)
  unfolding balances_or_not same_or_not all_or_not eq_or_ne sum_to
  repetition_or_not =
      elim (balances_or_not g sound (sum_to x g.actors)) [
        | inl (q, r, _) ↦ same_or_not (moved q r) (λ s. repetition_one g x q s r) (all_or_not (λ v. eq_or_ne (x v) (q v)) g.actors)
        | inr n ↦ inr (λ r. n (x, r.balanced, term_le_sum x g.actors))
      ]
    where
      moved : (q : ℕ → ℕ) → Repetition g q → ((v : ℕ) → v < g.actors → x v ≡ q v) → Repetition g x
      moved q r same =
          record {
            balanced = record {
              positive = λ v l. rw (same v l) (r.balanced.positive v l);
              equal = λ c l. rw (same _ (sound.tail c l), same _ (sound.head c l)) (r.balanced.equal c l);
            };
            least = λ y b v l. rw (same v l) (r.least y b v l);
          }

  -- 01, Skip numbers: x is the skip vector, or not.
  unfoldable pub skips_or_not : Reached g → Skips g x ⊎ (¬ Skips g x)
  unfolding skips_exist same_or_not all_or_not eq_or_ne
  skips_or_not reached =
      let (s, k) = skips_exist g sound reached in
      same_or_not (moved s k) (λ j. skips_one g x s j k) (all_or_not (λ v. eq_or_ne (x v) (s v)) g.actors)
    where
      moved : (s : ℕ → ℕ) → Skips g s → ((v : ℕ) → v < g.actors → x v ≡ s v) → Skips g x
      moved s k same =
          record {
            skippable = record {
              output = rw (same _ sound.output) k.skippable.output;
              channel = λ c l. rw (same _ (sound.tail c l), same _ (sound.head c l)) (k.skippable.channel c l);
            };
            greatest = λ y a v l. rw (same v l) (k.greatest y a v l);
          }

-- v is short of its number and enabled.
abbrev GoesOn : (g : Graph) (q : ℕ → ℕ) → Run g q → ℕ → Type 0
GoesOn g q r v = (firings v r.order < q v) × Enabled g (after g (initial g) r.order) v

abbrev Ended : (g : Graph) (q : ℕ → ℕ) → Run g q → Type 0
Ended g q r = (v : ℕ) → v < g.actors → ¬ GoesOn g q r v

module _ (g : Graph) (q : ℕ → ℕ) where
  step : (r : Run g q) → Ended g q r ⊎ ((t : Run g q) × (missing g q t < missing g q r))
  step r =
      let goes_on : (v : ℕ) → Decided (GoesOn g q r v) = λ v. both_or_not (le_or_not (suc (firings v r.order)) (q v)) (enabled_or_not g (after g (initial g) r.order) v) in
      elim (first_fails (λ v. ⊎_swap (goes_on v)) g.actors) [ inl all ↦ inl all | inr f ↦ inr (go_on g q r f.0 f.1 f.2.0 f.2.1) ]

-- 01, Deadlock: some legal order fires each actor q times, or none does; the trial run tells which.
unfoldable pub lives_or_not : (g : Graph) → Sound g → (q : ℕ → ℕ) → Lives g q ⊎ Deadlock g q
unfolding step go_on settle first_fails enabled_or_not both_or_not le_or_not firings after fire removed added Legal sum_to ⊎_swap
lives_or_not g sound q =
    let (r, ended) = settle (Ended g q) (missing g q) (step g q) (record { order = []; legal = tt; within = λ v l. omega arith }) in
    elim (first_fails (λ v. ⊎_swap (lt_or_ge (firings v r.order) (q v))) g.actors) [
      | inl full ↦ inl (r.order, r.legal, λ v l. le_antisymm (r.within v l) (full v l))
      | inr f ↦ inr (stuck sound q r.order r.legal (λ v l short enabled. ended v l (short, enabled)) f.0 f.1 f.2)
    ]
