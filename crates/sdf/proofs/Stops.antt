-- 01, Deadlock: where a run has stopped. A graph lives exactly if no counts short of the repetition numbers are such that
-- every actor that is short waits for a channel; whole multiples, and a graph with fewer channels, live too.
use mathlib.Core.Path.{◌≡◌, refl, ◌∙◌, ap}
use mathlib.Core.Logic.{◌⊎◌, inl, inr, ⊎_elim}
use mathlib.Core.List.{List, [], ◌∷◌, ◌++◌, append_assoc}
use Prim.Native.Nat.{ℕ, ◌+◌, ◌*◌, ◌<◌, ◌≤◌}
use native.Mathlib.Nat.{le_antisymm, mul-le-mul_right}
use native.Mathlib.Omega.{arith}
use Rattle.sdf.specs.Graph.{Graph, Sound}
use Rattle.sdf.specs.Order.{State, initial, Enabled, fire, after, Legal, firings, Lives}
use Rattle.sdf.specs.Balance.{AtMost}
use Rattle.sdf.proofs.Numbers.{lt_or_ge, eq_or_ne, chosen, passed}
use Rattle.sdf.proofs.Settle.{settle, first_fails}
use Rattle.sdf.proofs.Order.{Evens, tokens_law, firings_append, legal_take_apart}
use Rattle.sdf.proofs.Runs.{Run, missing, go_on}

-- With n firings done, some channel into v holds too little for one more firing of v.
abbrev pub Waits : Graph → (ℕ → ℕ) → ℕ → Type 0
Waits g n v =
    (c : ℕ) × (c < g.channels) × ((g.channel c).head ≡ v) × ((g.channel c).tokens + n (g.channel c).tail * (g.channel c).produce < (n v + 1) * (g.channel c).consume)

-- Counts at which a run toward q has stopped: each actor that is short of its count is kept from firing by a channel into it.
pub record Stopped (g : Graph) (q n : ℕ → ℕ) : Type 0 where
  pub within : AtMost g n q
  pub waits : (v : ℕ) → v < g.actors → n v < q v → Waits g n v

module _ (g : Graph) (q : ℕ → ℕ) where
  -- After a legal order an actor may fire, or a channel into it holds too little.
  enabled_or_waits : (order : List ℕ) → Legal g (initial g) order → (v : ℕ) → Enabled g (after g (initial g) order) v ⊎ Waits g (λ w. firings w order) v
  enabled_or_waits order legal v =
      let s = after g (initial g) order in
      let holds : (c : ℕ) → ((g.channel c).head ≡ v → (g.channel c).consume ≤ s c) ⊎ (((g.channel c).head ≡ v) × (s c < (g.channel c).consume)) = λ c.
      elim (lt_or_ge (s c) (g.channel c).consume) [
        | inr h ↦ inl (λ _. h)
        | inl h ↦ elim (eq_or_ne (g.channel c).head v) [ inl e ↦ inr (e, h) | inr n ↦ inl (λ e. absurd (n e)) ]
      ] in
      elim (first_fails holds g.channels) [
        | inl all ↦ inl all
        | inr (c, l, (e, h)) ↦ inr (c, l, e, omega (arith, h, rw e at (tokens_law g (initial g) order legal c l)))
      ]

  step : (r : Run g q) → Stopped g q (λ v. firings v r.order) ⊎ ((t : Run g q) × (missing g q t < missing g q r))
  step r =
      let x : ℕ → ℕ = λ v. firings v r.order in
      let goes_on : (v : ℕ) → (x v < q v → Waits g x v) ⊎ ((x v < q v) × Enabled g (after g (initial g) r.order) v) = λ v.
      elim (lt_or_ge (x v) (q v)) [
        | inr h ↦ inl (λ l. absurd (omega arith))
        | inl h ↦ elim (enabled_or_waits r.order r.legal v) [ inl e ↦ inr (h, e) | inr w ↦ inl (λ _. w) ]
      ] in
      elim (first_fails goes_on g.actors) [
        | inl all ↦ inl (record { within = r.within; waits = all })
        | inr (v, l, (short, enabled)) ↦ inr (go_on g q r v l short enabled)
      ]

  -- Some legal order stops on its way to q.
  pub stops : (order : List ℕ) × Legal g (initial g) order × Stopped g q (λ v. firings v order)
  unfolding Legal firings
  stops =
      let (r, stopped) = settle (λ r. Stopped g q (λ v. firings v r.order)) (missing g q) step (record { order = []; legal = tt; within = λ v l. omega arith }) in
      (r.order, r.legal, stopped)

-- Where every run toward q stops only at q, some legal order fires each actor q times.
pub stopped_lives : {g : Graph} → Sound g → (q : ℕ → ℕ) → ((n : ℕ → ℕ) → Stopped g q n → (v : ℕ) → v < g.actors → n v ≡ q v) → Lives g q
stopped_lives {g} sound q all =
    let (order, legal, stopped) = stops g q in
    (order, legal, all (λ v. firings v order) stopped)

module _ {g : Graph} (sound : Sound g) (q n : ℕ → ℕ) (even : Evens g q) (stopped : Stopped g q n) (order : List ℕ) (legal : Legal g (initial g) order) where
  -- Every actor short of q at the stop has fired no more often than it had there.
  abbrev Behind : List ℕ → Type 0
  Behind done = (v : ℕ) → v < g.actors → n v < q v → firings v done ≤ n v

  next_behind : (done : List ℕ) (w : ℕ) (rest : List ℕ) → done ++ (w ∷ rest) ≡ order → Behind done → n w < q w → firings w done < n w
  unfolding Legal
  next_behind done w rest e behind short =
      let (first, (actor, enabled, _)) = legal_take_apart g (initial g) done (w ∷ rest) (rw e legal) in
      let (c, l, h, little) = stopped.waits w actor short in
      let d = g.channel c in
      let law = rw h at (tokens_law g (initial g) done first c l) in
      let never : n w ≤ firings w done → ⊥ = λ full.
      ⊎_elim
      (λ m. omega (arith, enabled c l h, mul-le-mul_right d.consume full, mul-le-mul_right d.produce (behind d.tail (sound.tail c l) m)))
      (λ m. omega (arith, rw h at (even c l), mul-le-mul_right d.produce m, mul-le-mul_right d.consume short))
      (lt_or_ge (n d.tail) (q d.tail)) in
      ⊎_elim (λ m. m) (λ full. absurd (never full)) (lt_or_ge (firings w done) (n w))

  stays_behind : (done rest : List ℕ) → done ++ rest ≡ order → Behind done → Behind order
  unfolding firings
  stays_behind done [] e behind = λ v l m. rw (← e, firings_append v done []) (omega (arith, behind v l m))
  stays_behind done (w ∷ rest) e behind =
      stays_behind (done ++ (w ∷ [])) rest (append_assoc done (w ∷ []) rest ∙ e)
      (λ v l m. ⊎_elim
      (λ s. omega (arith, firings_append v done (w ∷ []), chosen 1 0 s, ap (λ x. firings x done) s, ap n s, next_behind done w rest e behind (rw s m)))
      (λ s. omega (arith, firings_append v done (w ∷ []), passed 1 0 s, behind v l m))
      (eq_or_ne w v))

-- Where some legal order fires each actor q times, every run toward counts Q within q that put on each channel what they take
-- off it stops only at Q.
pub lives_stopped : {g : Graph} → Sound g → (q Q n : ℕ → ℕ) → Lives g q → AtMost g Q q → Evens g Q
    → Stopped g Q n → (v : ℕ) → v < g.actors → n v ≡ Q v
unfolding firings
lives_stopped sound q Q n (order, legal, fires) most even stopped v l =
    ⊎_elim
    (λ short. absurd (omega (arith, stays_behind sound Q n even stopped order legal [] order refl (λ w m _. omega arith) v l short, fires v l, most v l)))
    (λ full. le_antisymm (stopped.within v l) full)
    (lt_or_ge (n v) (Q v))

module _ (g k : Graph) (actors : k.actors ≡ g.actors) (pick : ℕ → ℕ)
    (picked : (c : ℕ) → c < k.channels → (pick c < g.channels) × (k.channel c ≡ g.channel (pick c))) where
  fire_fewer : (s t : State) (v : ℕ) → ((c : ℕ) → c < k.channels → t c ≡ s (pick c)) → (c : ℕ) → c < k.channels → fire k t v c ≡ fire g s v (pick c)
  unfolding fire
  fire_fewer s t v same c l = rw (same c l, (picked c l).1)

  -- An order legal in g is legal in k, whose channels are some of g's, from a state that has the same tokens on them.
  pub legal_fewer : (s t : State) (order : List ℕ) → ((c : ℕ) → c < k.channels → t c ≡ s (pick c)) → Legal g s order → Legal k t order
  unfolding Legal
  legal_fewer s t [] same legal = tt
  legal_fewer s t (v ∷ order) same (actor, enabled, legal) = (
    rw actors actor,
    λ c l h. rw (same c l, (picked c l).1) (enabled (pick c) (picked c l).0 (rw (picked c l).1 at h)),
    legal_fewer (fire g s v) (fire k t v) order (fire_fewer s t v same) legal,
  )

  -- What a graph lives by, a graph with the same actors and only some of its channels lives by too.
  pub lives_fewer : (q : ℕ → ℕ) → Lives g q → Lives k q
  lives_fewer q (order, legal, fires) =
      (order, legal_fewer (initial g) (initial k) order (λ c l. ap (λ d. d.tokens) (picked c l).1) legal, λ v l. fires v (rw actors at l))
