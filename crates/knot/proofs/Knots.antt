-- 01, Deadlock, before a trial run: who waits for nobody that is left fires all its firings, who is awaited by nobody that is left
-- changes nothing, and a graph lives exactly if the core between them does.
use mathlib.Core.Path.{◌≡◌, refl, sym, ap, ◌∙◌, subst}
use mathlib.Core.Logic.{⊎_elim, ◌≢◌}
use mathlib.Core.Bool.{Bool, true, false, cond}
use mathlib.Core.List.{List}
use Prim.Native.Nat.{ℕ, ◌+◌, ◌-◌, ◌*◌, ◌/◌, ◌<◌, ◌≤◌, min, max}
use native.Mathlib.Nat.{le_refl, le_trans, mul-le-mul_right, eq_of_mul-eq-mul_left}
use native.Mathlib.Omega.{arith}
use lib.Dec.{eqb}
use lib.ListN.{length, take}
use lib.Seq.{length-take-le}
use borrow.Author.Tests.{lt-ltb, eqb-true}
use Rattle.units.specs.Bounds.{max_rate, max_tokens, max_repetition}
use Rattle.sets.specs.Sets.{has, Covers, Below, Put}
use Rattle.sets.proofs.Bits.{has_none, has_small, has_bit}
use Rattle.sdf.specs.Graph.{Channel, Graph, Sound}
use Rattle.sdf.specs.Balance.{AtMost, Balanced}
use Rattle.sdf.specs.Order.{Lives}
use Rattle.sdf.proofs.Numbers.{lt_or_ge, eq_or_ne, chosen, passed}
use Rattle.sdf.proofs.Order.{Evens, lives_times}
use Rattle.sdf.proofs.Stops.{Stopped, stopped_lives, lives_stopped, lives_fewer}
use Rattle.trial.specs.Flat.{vector, Drawn}
use Rattle.trial.specs.Trial.{Runnable}
use Rattle.trial.specs.Knot.{enough, waits, Awaits, Done, Core, Kept, Shares, Released, Wanted}

module _ {g : Graph} {q : ℕ → ℕ} (balanced : Balanced g q) where
  -- A channel that keeps its head from firing on the way to q is one on which its head has to wait.
  pub little_waits : (n : ℕ → ℕ) (c v : ℕ) → c < g.channels → v < g.actors → (g.channel c).head ≡ v → n v < q v
      → (g.channel c).tokens + n (g.channel c).tail * (g.channel c).produce < (n v + 1) * (g.channel c).consume → waits g q c ≡ true
  unfolding enough
  little_waits n c v l m h short little =
      let e = g.channel c in
      let even = rw h at (balanced.equal c l) in
      let never : enough e q ≤ e.tokens → ⊥ = λ full.
      ⊎_elim
      (λ s.
      let own : e.tail ≡ v = s ∙ h in
      let same : e.produce ≡ e.consume = eq_of_mul-eq-mul_left (q v) (balanced.positive v m) e.produce e.consume (rw own at even) in
      omega (arith, chosen e.consume (q e.tail * e.produce) s, rw own at little, ap (λ (x : ℕ). n v * x) same))
      (λ d. omega (arith, passed e.consume (q e.tail * e.produce) d, even, little, mul-le-mul_right e.consume short))
      (eq_or_ne e.tail e.head) in
      lt-ltb e.tokens (enough e q) (⊎_elim (λ x. x) (λ full. absurd (never full)) (lt_or_ge e.tokens (enough e q)))

  -- And its tail has not fired all of q.
  pub little_short : (n : ℕ → ℕ) (c v : ℕ) → c < g.channels → (g.channel c).head ≡ v → n v < q v
      → (g.channel c).tokens + n (g.channel c).tail * (g.channel c).produce < (n v + 1) * (g.channel c).consume → n (g.channel c).tail ≢ q (g.channel c).tail
  little_short n c v l h short little all =
      let e = g.channel c in
      omega (arith, rw h at (balanced.equal c l), little, ap (λ (x : ℕ). x * e.produce) all, mul-le-mul_right e.consume short)

  -- Where a run has stopped: an actor fires all of q if all for whom it has to wait do.
  pub none_awaited : {n : ℕ → ℕ} → Stopped g q n → (v : ℕ) → v < g.actors
      → ((c : ℕ) → c < g.channels → (g.channel c).head ≡ v → waits g q c ≡ true → n (g.channel c).tail ≡ q (g.channel c).tail) → n v ≡ q v
  none_awaited {n} stopped v m all =
      let never : n v < q v → ⊥ = λ short.
      let (c, l, h, little) = stopped.waits v m short in
      little_short n c v l h short little (all c l h (little_waits n c v l m h short little)) in
      ⊎_elim (λ short. absurd (never short)) (λ full. omega (arith, stopped.within v m)) (lt_or_ge (n v) (q v))

module _ {g : Graph} (sound : Sound g) {q : ℕ → ℕ} (balanced : Balanced g q) {awaits : ℕ → ℕ} (set : Awaits g q awaits) where
  -- On a channel on which an actor has to wait, the tail is one that it awaits.
  awaited : (c v : ℕ) → c < g.channels → (g.channel c).head ≡ v → waits g q c ≡ true → has (awaits v) (g.channel c).tail ≡ 1
  awaited c v l h w = rw h at (set.holds c l w)

  -- Who waits for nobody that is left fires all of q.
  pub released_done : {left v new : ℕ} → v < g.actors → Done g q left → Released left (awaits v) v new → Done g q new
  released_done {left} {v} {new} m done r n stopped w l z =
      ⊎_elim
      (λ (e : w ≡ v).
      let out : has new v ≡ 0 = subst (λ (x : ℕ). has new x ≡ 0) e z in
      let all : n v ≡ q v =
      ⊎_elim
      (λ o. done n stopped v m o)
      (λ i. none_awaited balanced stopped v m
      (λ c k h s. done n stopped (g.channel c).tail (sound.tail c k) (r.free i out (g.channel c).tail (awaited c v k h s))))
      (has_bit left v) in
      subst (λ (x : ℕ). n x ≡ q x) (sym e) all)
      (λ d. done n stopped w l (sym (r.others w d) ∙ z))
      (eq_or_ne w v)

  -- Whom nobody of the core awaits leaves it a core.
  pub core_turn : {core new : ℕ} → Core g q core → Wanted awaits core new → Core g q new
  core_turn {core} {new} k r = record {
    hinges = λ n stopped all. k.hinges n stopped (λ v m i. ⊎_elim
        (λ o. none_awaited balanced stopped v m (λ c l h s. ⊎_elim
        (λ x. k.apart n stopped c l s (subst (λ (x : ℕ). has core x ≡ 1) (sym h) i) x)
        (λ x. all (g.channel c).tail (sound.tail c l) (r.wanted v (g.channel c).tail i x (awaited c v l h s)))
        (has_bit core (g.channel c).tail)))
        (λ i. all v m i)
        (has_bit new v));
    apart = λ n stopped c l s i o.
        let inside = r.stays (g.channel c).head i in
        ⊎_elim
        (λ x. k.apart n stopped c l s inside x)
        (λ x. absurd (omega (arith, o, r.wanted (g.channel c).head (g.channel c).tail inside x (set.holds c l s))))
        (has_bit core (g.channel c).tail);
  }

-- At first everybody is left.
pub done_start : (g : Graph) (q : ℕ → ℕ) (left : ℕ) → Covers left g.actors → Done g q left
done_start g q left all n stopped v l z = absurd (omega (arith, all v l))

-- Those who are left are a core.
pub core_start : {g : Graph} → Sound g → {q : ℕ → ℕ} {left : ℕ} → Done g q left → Core g q left
core_start {g} sound {q} {left} done = record {
  hinges = λ n stopped all v l. ⊎_elim (λ o. done n stopped v l o) (λ i. all v l i) (has_bit left v);
  apart = λ n stopped c l s i o. done n stopped (g.channel c).tail (sound.tail c l) o;
}

-- Where nobody is left the graph lives.
pub done_lives : {g : Graph} → Sound g → {q : ℕ → ℕ} {left : ℕ} → Done g q left → left ≡ 0 → Lives g q
done_lives sound {q} {left} done e = stopped_lives sound q (λ n stopped v l. done n stopped v l (ap (λ (x : ℕ). has x v) e ∙ has_none v))

-- The set without v, if nobody in it is awaited, as the code makes it.
pub released : (left awaits v both one new : ℕ) → ((w : ℕ) → has both w ≡ min (has awaits w) (has left w)) → Put 0 v (max (has 0 v) (cond (eqb both 0) 1 0)) one
    → ((w : ℕ) → has new w ≡ has left w - has one w) → new ≤ left → Released left awaits v new
released left awaits v both one new common put minus fewer = record {
  fewer = fewer;
  others = λ w d. minus w ∙ omega (arith, put.there w d, has_none w);
  stays = λ h. omega (arith, minus v, has_small left v);
  free = λ i o w h. free w h (eqb both 0) refl (omega (arith, minus v, put.here, has_none v));
}
  where
    free : (w : ℕ) → has awaits w ≡ 1 → (t : Bool) → eqb both 0 ≡ t → 0 < cond (eqb both 0) 1 0 → has left w ≡ 0
    free w h true e p = omega (arith, common w, ap (λ (x : ℕ). has x w) (eqb-true both 0 e), has_none w)
    free w h false e p = absurd (omega (arith, ap {B = ℕ} (λ (t : Bool). cond t 1 0) e))

-- Nobody comes into the set.
pub released_below : {left awaits v new n : ℕ} → Released left awaits v new → Below left n → Below new n
released_below {left} {awaits} {v} {new} {n} r b w h =
    ⊎_elim
    (λ (e : w ≡ v). b w (subst (λ (x : ℕ). has left x ≡ 1) (sym e) (r.stays (subst (λ (x : ℕ). has new x ≡ 1) e h))))
    (λ d. b w (sym (r.others w d) ∙ h))
    (eq_or_ne w v)

-- Some of those left have said whom they await; those of `todo` have not.
pub record Wanting (awaits : ℕ → ℕ) (left all todo : ℕ) : Type 0 where
  pub within : (v : ℕ) → has todo v ≡ 1 → has left v ≡ 1
  pub said : (v w : ℕ) → has left v ≡ 1 → has todo v ≡ 0 → has (awaits v) w ≡ 1 → has all w ≡ 1

-- Before anybody has.
pub wanting_start : (awaits : ℕ → ℕ) (left : ℕ) → Wanting awaits left 0 left
wanting_start awaits left = record { within = λ v h. h; said = λ v w h z. absurd (omega arith) }

-- One more has.
pub wanting_turn : {awaits : ℕ → ℕ} {left all todo v all' todo' : ℕ} → Wanting awaits left all todo
    → ((w : ℕ) → has all' w ≡ max (has all w) (has (awaits v) w)) → Put todo v 0 todo' → Wanting awaits left all' todo'
wanting_turn {awaits} {left} {all} {todo} {v} {all'} {todo'} s join off = record {
  within = λ u h. ⊎_elim
      (λ (e : u ≡ v). absurd (omega (arith, ap (has todo') e, off.here)))
      (λ d. s.within u (sym (off.there u d) ∙ h))
      (eq_or_ne u v);
  said = λ u w h z l. ⊎_elim
      (λ (e : u ≡ v). let k : has (awaits v) w ≡ 1 = subst (λ (x : ℕ). has (awaits x) w ≡ 1) e l in omega (arith, join w, has_small all w))
      (λ d. omega (arith, join w, s.said u w h (sym (off.there u d) ∙ z) l, has_small (awaits v) w))
      (eq_or_ne u v);
}

-- All have.
pub wanting_end : {awaits : ℕ → ℕ} {left all todo new : ℕ} → Wanting awaits left all todo → todo ≡ 0
    → ((w : ℕ) → has new w ≡ min (has left w) (has all w)) → new ≤ left → Wanted awaits left new
wanting_end {awaits} {left} {all} {todo} {new} s e common fewer = record {
  fewer = fewer;
  stays = λ v h. omega (arith, common v, has_small left v);
  wanted = λ v w h i l. omega (arith, common w, s.said v w h (ap (λ (x : ℕ). has x v) e ∙ has_none v) l);
}

-- Nobody comes into the core.
pub wanted_below : {awaits : ℕ → ℕ} {left new n : ℕ} → Wanted awaits left new → Below left n → Below new n
wanted_below r b v h = b v (r.stays v h)

module _ {g k : Graph} (sound : Sound g) (inner : Sound k) {q share : ℕ → ℕ} {core : ℕ} (balanced : Balanced g q)
    (kept : Kept g k q core) (shares : Shares g.actors q core share) where
  -- The shares put on each channel within the core what they take off it.
  shares_even : Evens k share
  shares_even c l =
      let e = k.channel c in
      let times = shares.times in
      let even : q e.tail * e.produce ≡ q e.head * e.consume = rw (kept.picked c l).1 (balanced.equal (kept.pick c) (kept.picked c l).0) in
      let tail = shares.inside e.tail (rw (← kept.actors) (inner.tail c l)) (kept.tails c l) in
      let head = shares.inside e.head (rw (← kept.actors) (inner.head c l)) (kept.heads c l) in
      eq_of_mul-eq-mul_left times shares.positive (share e.tail * e.produce) (share e.head * e.consume)
      (omega (arith, even, ap (λ (x : ℕ). x * e.produce) tail, ap (λ (x : ℕ). x * e.consume) head))

  -- A share is at most the count itself.
  shares_most : AtMost k share q
  shares_most v m =
      let l : v < g.actors = rw (← kept.actors) m in
      ⊎_elim
      (λ o. omega (arith, shares.outside v l o))
      (λ i. omega (arith, shares.inside v l i, mul-le-mul_right (share v) shares.positive))
      (has_bit core v)

  -- Where a run of the whole has stopped, a run of the core has.
  stopped_core : Core g q core → (n : ℕ → ℕ) → Stopped g q n → Stopped k (λ v. shares.times * share v) (λ v. n v * has core v)
  stopped_core hinge n stopped = record {
    within = λ v m.
        let l : v < g.actors = rw (← kept.actors) m in
        ⊎_elim
        (λ o. omega (arith, ap (λ (x : ℕ). n v * x) o))
        (λ i. omega (arith, ap (λ (x : ℕ). n v * x) i, shares.inside v l i, stopped.within v l))
        (has_bit core v);
    waits = λ v m short.
        let l : v < g.actors = rw (← kept.actors) m in
        ⊎_elim
        (λ o. absurd (omega (arith, short, ap (λ (x : ℕ). shares.times * x) (shares.outside v l o))))
        (λ i.
        let less : n v < q v = omega (arith, short, ap (λ (x : ℕ). n v * x) i, shares.inside v l i) in
        let (c, lc, h, little) = stopped.waits v l less in
        let wait = little_waits balanced n c v lc l h less little in
        let e = g.channel c in
        let head : has core e.head ≡ 1 = subst (λ (x : ℕ). has core x ≡ 1) (sym h) i in
        ⊎_elim
        (λ x. absurd (little_short balanced n c v lc h less little (hinge.apart n stopped c lc wait head x)))
        (λ x.
        let (d, ld, same) = kept.waiting c lc wait x head in
        let fewer : e.tokens + n e.tail * has core e.tail * e.produce < (n v * has core v + 1) * e.consume =
        omega (arith, little, ap (λ (y : ℕ). n e.tail * y * e.produce) x, ap (λ (y : ℕ). (n v * y + 1) * e.consume) i) in
        (d, ld, rw same h, rw same fewer))
        (has_bit core e.tail))
        (has_bit core v);
  }

  -- The core lives by its shares exactly if the whole lives by its counts.
  pub knot_decides : Core g q core → (Lives k share → Lives g q) × (Lives g q → Lives k share)
  knot_decides hinge = (
    λ lives. stopped_lives sound q (λ n stopped. hinge.hinges n stopped (λ v l i.
        let times = shares.times in
        let Q : ℕ → ℕ = λ v. times * share v in
        let even : Evens k Q = λ c l. omega (arith, ap (λ (x : ℕ). times * x) (shares_even c l)) in
        let all = lives_stopped inner Q Q (λ v. n v * has core v) (lives_times inner share shares_even lives times) (λ v l. le_refl (Q v)) even (stopped_core hinge n stopped) v (rw kept.actors l) in
        omega (arith, all, ap (λ (x : ℕ). n v * x) i, shares.inside v l i))),
    λ lives. stopped_lives inner share (λ n stopped.
        lives_stopped inner q share n (lives_fewer g k kept.actors kept.pick kept.picked q lives) shares_most shares_even stopped),
  )

-- A trial run toward the shares is within the bounds.
pub kept_runnable : {g k : Graph} {q : ℕ → ℕ} {core : ℕ} {xs : List ℕ} → Sound g → Sound k → Balanced g q → Kept g k q core → Shares g.actors q core (vector xs)
    → AtMost g q (λ _. max_repetition) → Runnable k xs
kept_runnable {g} {k} {q} sound inner balanced kept shares most = record {
  restores = λ c l loop.
      let e = k.channel c in
      let m : e.head < g.actors = rw (← kept.actors) (inner.head c l) in
      let even : q e.tail * e.produce ≡ q e.head * e.consume = rw (kept.picked c l).1 (balanced.equal (kept.pick c) (kept.picked c l).0) in
      eq_of_mul-eq-mul_left (q e.head) (balanced.positive e.head m) e.produce e.consume (rw loop at even);
  bound = λ v m. le_trans (shares_most sound inner balanced kept shares v m) (most v (rw (← kept.actors) m));
}

-- A graph with only some of the channels is within the bounds too.
pub kept_drawn : {g k : Graph} {q : ℕ → ℕ} {core : ℕ} → Drawn g → Kept g k q core → k.input ≡ g.input → k.output ≡ g.output → k.channels ≤ g.channels → Drawn k
kept_drawn {g} {k} drawn kept input output fewer =
    let s = drawn.sound in
    let one : (P : Channel → Type 0) → ((c : ℕ) → c < g.channels → P (g.channel c)) → (c : ℕ) → c < k.channels → P (k.channel c) =
    λ P all c l. rw (kept.picked c l).1 (all (kept.pick c) (kept.picked c l).0) in
    record {
      sound = record {
        input = rw (input, kept.actors) s.input;
        output = rw (output, kept.actors) s.output;
        tail = rw kept.actors (one (λ e. e.tail < g.actors) s.tail);
        head = rw kept.actors (one (λ e. e.head < g.actors) s.head);
        produce = one (λ e. 0 < e.produce) s.produce;
        consume = one (λ e. 0 < e.consume) s.consume;
      };
      actors = rw kept.actors drawn.actors;
      channels = le_trans fewer drawn.channels;
      produce = one (λ e. e.produce ≤ max_rate) drawn.produce;
      consume = one (λ e. e.consume ≤ max_rate) drawn.consume;
      tokens = one (λ e. e.tokens ≤ max_tokens) drawn.tokens;
    }

-- The list of n channels that stand at the front of another.
pub front_length : (xs : List ℕ) {n m : ℕ} → n ≤ m → m ≤ length xs / 5 → length (take (5 * n) xs) ≡ 5 * n
front_length xs {n} {m} l k = length-take-le (5 * n) xs (omega arith)
