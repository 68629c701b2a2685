-- 01, The graph and Balanced: what an order of firing does to each channel's tokens, orders one after the other, and whole
-- iterations, which restore every channel's tokens.
use mathlib.Core.Path.{◌≡◌, refl, sym, ap}
use mathlib.Core.Bool.{cond}
use mathlib.Core.Logic.{⊎_elim}
use mathlib.Core.List.{List, [], ◌∷◌, ◌++◌}
use Prim.Native.Nat.{ℕ, zero, suc, ◌+◌, ◌*◌, ◌<◌, ◌≤◌}
use native.Mathlib.Omega.{arith}
use lib.Dec.{eqb}
use borrow.Author.Tests.{eq-eqb, ne_eqb}
use Rattle.sdf.specs.Graph.{Channel, Graph, Sound}
use Rattle.sdf.specs.Order.{State, initial, Enabled, removed, added, fire, after, Legal, firings, Fires, Lives}
use Rattle.sdf.specs.Balance.{Balanced}
use Rattle.sdf.proofs.Numbers.{eq_or_ne, chosen, passed}

-- Counts at most y, and below it at v, are at most y with one firing of v more.
pub one_more : (x y : ℕ → ℕ) (v w : ℕ) → x v < y v → x w ≤ y w → x w + cond (eqb v w) 1 0 ≤ y w
one_more x y v w h k =
    ⊎_elim (λ e. omega (arith, chosen 1 0 e, ap x e, ap y e)) (λ n. omega (arith, passed 1 0 n)) (eq_or_ne v w)

times : (a b k r : ℕ) → cond (eqb a b) k 0 * r ≡ k * cond (eqb b a) r 0
times a b k r =
    ⊎_elim
    (λ e. rw (eq-eqb a b e, eq-eqb b a (sym e)))
    (λ n. rw (ne_eqb a b n, ne_eqb b a (λ e. n (sym e))) (omega arith))
    (eq_or_ne a b)

-- k firings of v, if it is the channel's head, remove k times what one does.
pub removed_times : (e : Channel) (v k : ℕ) → cond (eqb v e.head) k 0 * e.consume ≡ k * removed e v
unfolding removed
removed_times e v k = times v e.head k e.consume

-- k firings of v, if it is the channel's tail, add k times what one does.
pub added_times : (e : Channel) (v k : ℕ) → cond (eqb v e.tail) k 0 * e.produce ≡ k * added e v
unfolding added
added_times e v k = times v e.tail k e.produce

-- An enabled actor removes no more than is there.
pub removed_there : (g : Graph) (s : State) (v : ℕ) → Enabled g s v → (c : ℕ) → c < g.channels → removed (g.channel c) v ≤ s c
unfolding removed
removed_there g s v enabled c l =
    let e = g.channel c in
    ⊎_elim
    (λ h. omega (arith, enabled c l h, chosen e.consume 0 h))
    (λ n. omega (arith, passed e.consume 0 n))
    (eq_or_ne e.head v)

-- On each channel: tokens at the start + what the tail's firings added = tokens at the end + what the head's removed.
pub tokens_law : (g : Graph) (s : State) (order : List ℕ) → Legal g s order → (c : ℕ) → c < g.channels
    → s c + firings (g.channel c).tail order * (g.channel c).produce ≡ after g s order c + firings (g.channel c).head order * (g.channel c).consume
unfolding after Legal firings fire
tokens_law g s [] legal c l = omega arith
tokens_law g s (v ∷ order) (actor, enabled, legal) c l =
    let e = g.channel c in
    omega (
      arith,
      tokens_law g (fire g s v) order legal c l,
      removed_there g s v enabled c l,
      removed_times e v 1,
      added_times e v 1,
    )

fire_ext : (g : Graph) (s t : State) (v : ℕ) → ((c : ℕ) → c < g.channels → s c ≡ t c) → (c : ℕ) → c < g.channels → fire g s v c ≡ fire g t v c
unfolding fire
fire_ext g s t v same c l = rw (same c l)

-- States that agree on the graph's channels allow the same orders.
pub legal_ext : (g : Graph) (s t : State) (order : List ℕ) → ((c : ℕ) → c < g.channels → s c ≡ t c)
    → Legal g s order → Legal g t order
unfolding Legal
legal_ext g s t [] same legal = tt
legal_ext g s t (v ∷ order) same (actor, enabled, legal) = (
  actor,
  λ c l h. rw (same c l) at (enabled c l h),
  legal_ext g (fire g s v) (fire g t v) order (fire_ext g s t v same) legal,
)

-- States that agree on the graph's channels agree there after an order too.
pub after_ext : (g : Graph) (s t : State) (order : List ℕ) → ((c : ℕ) → c < g.channels → s c ≡ t c)
    → (c : ℕ) → c < g.channels → after g s order c ≡ after g t order c
unfolding after
after_ext g s t [] same c l = same c l
after_ext g s t (v ∷ order) same c l = after_ext g (fire g s v) (fire g t v) order (fire_ext g s t v same) c l

-- Two orders, one after the other, leave what the second leaves of the first one's state.
pub after_append : (g : Graph) (s : State) (a b : List ℕ) → after g s (a ++ b) ≡ after g (after g s a) b
unfolding after
after_append g s [] b = refl
after_append g s (v ∷ a) b = after_append g (fire g s v) a b

-- Two orders, one after the other, fire an actor as often as both together.
pub firings_append : (v : ℕ) (a b : List ℕ) → firings v (a ++ b) ≡ firings v a + firings v b
unfolding firings
firings_append v [] b = omega arith
firings_append v (w ∷ a) b = omega (arith, firings_append v a b)

-- A legal order, and after it one that is legal there, make a legal order.
pub legal_append : (g : Graph) (s : State) (a b : List ℕ) → Legal g s a → Legal g (after g s a) b → Legal g s (a ++ b)
unfolding Legal after
legal_append g s [] b first second = second
legal_append g s (v ∷ a) b (actor, enabled, first) second = (actor, enabled, legal_append g (fire g s v) a b first second)

-- Both parts of a legal order are legal, the second after the first.
pub legal_take_apart : (g : Graph) (s : State) (a b : List ℕ) → Legal g s (a ++ b) → Legal g s a × Legal g (after g s a) b
unfolding Legal after
legal_take_apart g s [] b legal = (tt, legal)
legal_take_apart g s (v ∷ a) b (actor, enabled, legal) =
    let (first, second) = legal_take_apart g (fire g s v) a b legal in
    ((actor, enabled, first), second)

-- Counts that put on each channel what they take off it; they may be 0.
abbrev pub Evens : Graph → (ℕ → ℕ) → Type 0
Evens g q = (c : ℕ) → c < g.channels → q (g.channel c).tail * (g.channel c).produce ≡ q (g.channel c).head * (g.channel c).consume

-- A legal order that fires d times such counts leaves each channel's tokens as they were.
pub evens_restore : {g : Graph} → Sound g → (q : ℕ → ℕ) → Evens g q → (s : State) (order : List ℕ) (d : ℕ)
    → Legal g s order → Fires g (λ v. d * q v) order → (c : ℕ) → c < g.channels → after g s order c ≡ s c
evens_restore {g} sound q even s order d legal fires c l =
    let e = g.channel c in
    omega (
      arith,
      rw (fires e.tail (sound.tail c l), fires e.head (sound.head c l)) at (tokens_law g s order legal c l),
      ap (λ (n : ℕ). d * n) (even c l),
    )

-- A legal order that makes one iteration leaves each channel's tokens as they were.
pub iteration_restores : {g : Graph} {q : ℕ → ℕ} → Sound g → Balanced g q → (s : State) (order : List ℕ)
    → Legal g s order → Fires g q order → (c : ℕ) → c < g.channels → after g s order c ≡ s c
iteration_restores {q = q} sound balanced s order legal fires =
    evens_restore sound q balanced.equal s order 1 legal (λ v l. omega (arith, fires v l))

-- Where some legal order fires each actor Q times, and Q puts on each channel what it takes off it, some legal order fires each
-- actor d times as often.
pub lives_times : {g : Graph} → Sound g → (Q : ℕ → ℕ) → Evens g Q → Lives g Q → (d : ℕ) → Lives g (λ v. d * Q v)
unfolding Legal firings
lives_times sound Q even lives zero = ([], tt, λ v l. omega arith)
lives_times {g} sound Q even lives (suc d) =
    let (once, legal-once, fires-once) = lives in
    let (order, legal, fires) = lives_times sound Q even lives d in
    let same = evens_restore sound Q even (initial g) order d legal fires in
    let again = legal_ext g (initial g) (after g (initial g) order) once (λ c l. sym (same c l)) legal-once in (
      order ++ once,
      legal_append g (initial g) order once legal again,
      λ v l. omega (arith, firings_append v order once, fires v l, fires-once v l),
    )
