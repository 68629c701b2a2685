-- 01, answer 7: which actors the channels lead to. What is reached is the least set that holds the start and is closed under
-- the channels; it is found by adding heads until nothing is left to add.
use mathlib.Core.Path.{◌≡◌, refl, sym, subst}
use mathlib.Core.Logic.{◌⊎◌, inl, inr, ⊎_elim, ◌↔◌}
use mathlib.Core.List.{List, [], ◌∷◌, ◌++◌, reverse_aux}
use Prim.Native.Nat.{ℕ, ◌-◌, ◌<◌, ◌≤◌}
use native.Mathlib.Omega.{arith}
use lib.ListN.{length, length-append}
use Rattle.sdf.specs.Graph.{Graph, Channel, Sound, Along, Reaches, Reached}
use Rattle.sdf.specs.Sum.{sum_to}
use Rattle.sdf.proofs.Numbers.{eq_or_ne, lt_or_ge}
use Rattle.sdf.proofs.Sum.{sum_bound}
use Rattle.sdf.proofs.Settle.{settle, first_fails, put, put_same, put_other, put_keeps, sum_raise}

module _ (g : Graph) where
  along_closed : (P : ℕ → Type 0) (w : ℕ) → ((c : ℕ) → c < g.channels → P (g.channel c).tail → P (g.channel c).head) → (path : List ℕ) (v : ℕ) → Along g v path w → P v → P w
  unfolding Along
  along_closed P w step [] v a p = subst P a p
  along_closed P w step (c ∷ path) v a p = along_closed P w step path (g.channel c).head a.2 (step c a.0 (subst P (sym a.1) p))

  along_append : (p q : List ℕ) (u v w : ℕ) → Along g u p v → Along g v q w → Along g u (p ++ q) w
  unfolding Along
  along_append [] q u v w a b = rw a b
  along_append (c ∷ p) q u v w a b = (a.0, a.1, along_append p q (g.channel c).head v w a.2 b)

  -- What holds at v, and at each channel's head where it holds at the tail, holds at all that v reaches.
  pub reach_closed : (P : ℕ → Type 0) (v w : ℕ) → P v → ((c : ℕ) → c < g.channels → P (g.channel c).tail → P (g.channel c).head) → Reaches g v w → P w
  reach_closed P v w p step r = along_closed P w step r.0 v r.1 p

  -- u reaches what v reaches, where u reaches v.
  unfoldable pub reach_trans : (u v w : ℕ) → Reaches g u v → Reaches g v w → Reaches g u w
  unfolding along_append
  reach_trans u v w a b = (a.0 ++ b.0, along_append a.0 b.0 u v w a.1 b.1)

  -- A channel leads from its tail to its head.
  unfoldable pub reach_along : (c : ℕ) → c < g.channels → Reaches g (g.channel c).tail (g.channel c).head
  unfolding Along
  reach_along c l = (c ∷ [], (l, refl, refl))

  -- What reaches a channel's tail reaches its head.
  unfoldable pub reach_step : (v c : ℕ) → Reaches g v (g.channel c).tail → c < g.channels → Reaches g v (g.channel c).head
  reach_step v c r l = reach_trans v (g.channel c).tail (g.channel c).head r (reach_along c l)

  -- What a channel's head reaches, its tail reaches.
  unfoldable pub reach_back : (c w : ℕ) → c < g.channels → Reaches g (g.channel c).head w → Reaches g (g.channel c).tail w
  reach_back c w l r = reach_trans (g.channel c).tail (g.channel c).head w (reach_along c l) r

-- The channel from its head to its tail, and the graph of these.
unfoldable pub reversed_channel : Channel → Channel
reversed_channel e = record { tail = e.head; head = e.tail; produce = e.consume; consume = e.produce; tokens = e.tokens }

unfoldable pub reversed : Graph → Graph
unfolding reversed_channel
reversed g = record { actors = g.actors; input = g.output; output = g.input; channels = g.channels; channel = λ c. reversed_channel (g.channel c) }

-- The reversed graph of a sound one is sound.
pub reversed_sound : (g : Graph) → Sound g → Sound (reversed g)
unfolding reversed
reversed_sound g s = record { input = s.output; output = s.input; tail = s.head; head = s.tail; produce = s.consume; consume = s.produce }

along_reversed : (g : Graph) (p q : List ℕ) (u v w : ℕ) → Along (reversed g) u p v → Along g u q w → Along g v (reverse_aux p q) w
unfolding Along reversed
along_reversed g [] q u v w a b = rw a at b
along_reversed g (c ∷ p) q u v w a b = along_reversed g p (c ∷ q) (g.channel c).tail v w a.2 (a.0, refl, rw a.1 b)

-- In the reversed graph w reaches v exactly if v reaches w.
unfoldable pub reaches_reversed : (g : Graph) (v w : ℕ) → Reaches (reversed g) w v ↔ Reaches g v w
unfolding reversed along_reversed
reaches_reversed g v w = (turn g v w, turn (reversed g) w v)
  where
    turn : (g : Graph) (v w : ℕ) → Reaches (reversed g) w v → Reaches g v w
    turn g v w r = (reverse_aux r.0 [], along_reversed g r.0 [] w v w r.1 refl)

-- A set on its way up: it holds v, and each member w has a path from v with fewer channels than there are members.
record Growing (g : Graph) (v : ℕ) : Type 0 where
  member : ℕ → ℕ
  path : ℕ → List ℕ
  start : 0 < member v
  one : (w : ℕ) → member w ≤ 1
  along : (w : ℕ) → 0 < member w → Along g v (path w) w × (length (path w) < sum_to member g.actors)

abbrev Closed : (g : Graph) (v : ℕ) → Growing g v → Type 0
Closed g v s = (c : ℕ) → c < g.channels → 0 < s.member (g.channel c).tail → 0 < s.member (g.channel c).head

abbrev outside : (g : Graph) (v : ℕ) → Growing g v → ℕ
outside g v s = g.actors - sum_to s.member g.actors

-- A closed set holds all that v reaches.
closed_holds : (g : Graph) (v : ℕ) (s : Growing g v) → Closed g v s → (w : ℕ) → Reaches g v w → 0 < s.member w
closed_holds g v s closed w r = reach_closed g (λ w. 0 < s.member w) v w s.start closed r

module _ (g : Graph) (sound : Sound g) (v : ℕ) where
  add : (s : Growing g v) (c : ℕ) → c < g.channels → 0 < s.member (g.channel c).tail → s.member (g.channel c).head ≤ 0 → (t : Growing g v) × (outside g v t < outside g v s)
  unfolding Along
  add s c l m z =
      let h = (g.channel c).head in
      let k = (g.channel c).tail in
      let n = g.actors in
      let q = s.path k ++ (c ∷ []) in
      let x = put s.member h 1 in
      let p = put s.path h q in
      let one : (w : ℕ) → x w ≤ 1 = λ w. put_keeps (λ _ n. n ≤ 1) s.member h 1 (omega arith) w (s.one w) in
      let more : sum_to s.member n < sum_to x n = sum_raise s.member h 1 n (sound.head c l) (omega arith) in
      let here : Along g v q h × (length q < sum_to x n) = (along_append g (s.path k) (c ∷ []) v k h (s.along k m).0 (l, refl, refl), simp length-append (omega (arith, (s.along k m).1))) in
      let there : (w : ℕ) → 0 < s.member w → Along g v (s.path w) w × (length (s.path w) < sum_to x n) = λ w m. ((s.along w m).0, omega (arith, (s.along w m).1)) in
      let along : (w : ℕ) → 0 < x w → Along g v (p w) w × (length (p w) < sum_to x n) = λ w m. ⊎_elim (λ e. rw e (rw (put_same s.path h q) here)) (λ d. rw (put_other s.path h q w d) (there w (rw (put_other s.member h 1 w d) at m))) (eq_or_ne w h) in
      let start : 0 < x v = put_keeps (λ _ n. 0 < n) s.member h 1 (omega arith) v s.start in
      (record { member = x; path = p; start = start; one = one; along = along }, omega (arith, sum_bound x n 1 (λ w _. one w)))

  step : (s : Growing g v) → Closed g v s ⊎ ((t : Growing g v) × (outside g v t < outside g v s))
  step s = elim (first_fails inside g.channels) [ inl all ↦ inl all | inr f ↦ inr (add s f.0 f.1 f.2.0 f.2.1) ]
    where
      inside : (c : ℕ) → (0 < s.member (g.channel c).tail → 0 < s.member (g.channel c).head) ⊎ ((0 < s.member (g.channel c).tail) × (s.member (g.channel c).head ≤ 0))
      inside c =
          elim (lt_or_ge 0 (s.member (g.channel c).head)) [
            | inl l ↦ inl (λ _. l)
            | inr z ↦ elim (lt_or_ge 0 (s.member (g.channel c).tail)) [ inl m ↦ inr (m, z) | inr y ↦ inl (λ m. omega arith) ]
          ]

  alone : v < g.actors → Growing g v
  unfolding Along
  alone l =
      let x : ℕ → ℕ = put (λ _. 0) v 1 in
      let more : sum_to (λ _. 0) g.actors < sum_to x g.actors = sum_raise (λ _. 0) v 1 g.actors l (omega arith) in
      record {
        member = x;
        path = λ _. [];
        start = rw put_same (omega arith);
        one = λ w. put_keeps (λ _ n. n ≤ 1) (λ _. 0) v 1 (omega arith) w (omega arith);
        along = λ w m. (put_keeps (λ w n. 0 < n → v ≡ w) (λ _. 0) v 1 (λ _. refl) w (λ m. omega arith) m, omega arith);
      }

  closure : v < g.actors → (s : Growing g v) × Closed g v s
  unfolding step add alone
  closure l = settle (Closed g v) (outside g v) step (alone l)

-- What v reaches it reaches by fewer channels than there are actors.
pub reach_short : (g : Graph) (v w : ℕ) → Sound g → v < g.actors → Reaches g v w → (path : List ℕ) × Along g v path w × (length path < g.actors)
reach_short g v w sound l r =
    let s = closure g sound v l in
    let a = s.0.along w (closed_holds g v s.0 s.1 w r) in
    (s.0.path w, a.0, omega (arith, a.1, sum_bound s.0.member g.actors 1 (λ w _. s.0.one w)))

-- v reaches every actor, or not.
unfoldable pub reaches_all_or_not : (g : Graph) (v : ℕ) → Sound g → v < g.actors → ((w : ℕ) → w < g.actors → Reaches g v w) ⊎ (¬ ((w : ℕ) → w < g.actors → Reaches g v w))
unfolding closure closed_holds along_append settle first_fails lt_or_ge put sum_to
reaches_all_or_not g v sound l =
    let s = closure g sound v l in
    elim (first_fails (λ w. lt_or_ge 0 (s.0.member w)) g.actors) [
      | inl all ↦ inl (λ w k. (s.0.path w, (s.0.along w (all w k)).0))
      | inr f ↦ inr (λ h. omega (arith, f.2, closed_holds g v s.0 s.1 f.0 (h f.0 f.1)))
    ]

-- Every actor is reached from the input and reaches the output, or not.
unfoldable pub reached_or_not : (g : Graph) → Sound g → Reached g ⊎ (¬ Reached g)
unfolding reversed reaches_all_or_not reaches_reversed first_fails lt_or_ge
reached_or_not g sound =
    elim (reaches_all_or_not g g.input sound sound.input) [
      | inr n ↦ inr (λ h. n (λ w k. (h w k).0))
      | inl a ↦ elim (reaches_all_or_not (reversed g) g.output (reversed_sound g sound) sound.output) [
        | inr n ↦ inr (λ h. n (λ w k. (reaches_reversed g w g.output).1 (h w k).1))
        | inl b ↦ inl (λ w k. (a w k, (reaches_reversed g w g.output).0 (b w k)))
      ]
    ]
