-- 01, Balanced, as the engine finds it: numbers grow along the channels from the input, every balanced vector stays a whole
-- multiple of them, and where every actor has a number they are the repetition vector or there is none.
use mathlib.Core.Path.{◌≡◌, refl, sym, ap, subst, ◌∙◌}
use mathlib.Core.Bool.{Bool, true, false, cond}
use mathlib.Core.Logic.{⊎_elim, ◌≢◌, ◌↔◌}
use mathlib.Core.List.{List, []}
use Prim.Native.Nat.{ℕ, ◌+◌, ◌*◌, ◌-◌, ◌/◌, ◌%◌, ◌<◌, ◌≤◌, ◌∣◌, min, max}
use native.Mathlib.Nat.{mul_assoc, one-mul, eq-zero-or-pos, mul-pos, mul-le-mul_right, le-mul_of_pos_right, eq_of_mul-eq-mul_left, eq_of_mul-eq-mul_right, mod-lt, add-mod, mod-eq-sub-div-mul, dvd-sub, dvd-mul_left, dvd-mul_right, dvd-mul_left_of_dvd, dvd_of_mod-eq-zero, mod-eq-zero_of_dvd, div-mul_cancel}
use native.Mathlib.Omega.{arith}
use lib.Dec.{eqb, ltb}
use lib.ListN.{length, get_or, set}
use lib.Seq.{get_or-set_same, get_or-set_other}
use Rattle.std.specs.Prelude.{Ok, Err}
use borrow.Author.Count.{below_more}
use borrow.Author.Tests.{eqb-false, eqb-true}
use Rattle.units.specs.Bounds.{max_repetition}
use Rattle.sets.specs.Sets.{has, Covers, Below, Put, Marked, Gathers}
use Rattle.sets.proofs.Bits.{has_none, has_small, has_bit}
use Rattle.sets.proofs.Gather.{gather_start, gather_vector}
use Rattle.sdf.specs.Graph.{Channel, Graph, Sound, Along, Reaches}
use Rattle.sdf.specs.Balance.{Balanced, AtMost, Balances}
use Rattle.sdf.proofs.Numbers.{eq_or_ne, sub_mul}
use Rattle.sdf.proofs.Settle.{put, put_same, put_other}
use Rattle.sdf.proofs.Balance.{settled, past_bound}
use Rattle.sdf.proofs.Reach.{reach_closed, reach_step}
use Rattle.trial.specs.Flat.{vector}
use Rattle.trial.specs.Read.{Read}
use Rattle.trial.specs.Knot.{enough, waits, Awaits}
use Rattle.trial.proofs.Places.{stored}
use Rattle.repeat.specs.Words.{AllFrom, Joins, heads_of, tails_of, Words, Between}
use Rattle.repeat.specs.declared.draw.Neighbours.{Neighbours}
use Rattle.repeat.specs.declared.repetition.Unnumbered.{Unnumbered}
use Rattle.repeat.specs.Repetition.{Numbering, SettleAnswer, RepetitionAnswer, Numbered, LeastFactor, Multiples, Within, Grown, Extended, Even, Equal, Repeats}

positive_factor : (n m : ℕ) → 0 < n * m → 0 < n
positive_factor n m p = ⊎_elim (λ (z : n ≡ 0). omega (arith, ap (λ (n : ℕ). n * m) z)) (λ q. q) (eq-zero-or-pos n)

-- The search for the least factor: k is no larger than c and no smaller number is one, and `rest` is what k × m leaves.
pub record Factoring (m c k rest : ℕ) : Type 0 where
  pub positive : 0 < k
  pub within : k ≤ c
  pub leaves : rest ≡ k * m % c
  pub least : (j : ℕ) → 0 < j → c ∣ j * m → k ≤ j

-- A number that leaves something is below c, and the search goes on at the next.
pub factoring_turn : {m c k rest : ℕ} → Factoring m c k rest → rest ≢ 0 → (k < c) × Factoring m c (k + 1) ((rest + m % c) % c)
factoring_turn {m} {c} {k} {rest} f n =
    let over : (j : ℕ) → 0 < j → c ∣ j * m → k < j =
    λ j q d. ⊎_elim (λ (e : j ≡ k). absurd (n (f.leaves ∙ mod-eq-zero_of_dvd c (rw e at d)))) (λ x. omega (arith, f.least j q d)) (eq_or_ne j k) in
    let below : k < c = over c (omega arith) (dvd-mul_right c m) in
    let next : (k + 1) * m ≡ k * m + m = omega arith in
    (below, record { positive = omega arith; within = omega arith; leaves = rw (f.leaves, next, add-mod (k * m) m c); least = λ j q d. omega (arith, over j q d) })

-- A number that leaves nothing is the least factor.
pub factoring_end : {m c k rest : ℕ} → Factoring m c k rest → rest ≡ 0 → LeastFactor m c k
factoring_end {m} {c} f z = record { positive = f.positive; divides = dvd_of_mod-eq-zero c (sym f.leaves ∙ z); least = f.least }

-- The least factor is at most c.
pub factor_within : {m c k : ℕ} → LeastFactor m c k → 0 < c → k ≤ c
factor_within {m} {c} f p = f.least c p (dvd-mul_right c m)

-- The least factor divides every other.
factor_divides : (m c k j : ℕ) → LeastFactor m c k → c ∣ j * m → k ∣ j
factor_divides m c k j f d =
    let e : j % k * m ≡ j * m - j / k * (k * m) = rw (mod-eq-sub-div-mul j k, sub_mul j (j / k * k) m, mul_assoc (j / k) k m) in
    let r : c ∣ j % k * m = rw e (dvd-sub c d (dvd-mul_left_of_dvd c f.divides (j / k))) in
    ⊎_elim (λ z. dvd_of_mod-eq-zero k z) (λ p. absurd (omega (arith, f.least (j % k) p r, mod-lt j f.positive))) (eq-zero-or-pos (j % k))

-- Of the numbers before i each is k times what it was and within the bound, the others are as they were.
pub record Scaling (k i : ℕ) (before now : List ℕ) : Type 0 where
  pub done : (v : ℕ) → v < i → (vector now v ≡ vector before v * k) × (vector now v ≤ max_repetition)
  pub rest : (v : ℕ) → i ≤ v → vector now v ≡ vector before v

module _ (g : Graph) (x : ℕ → ℕ) (m : Multiples g x) (b : ℕ → ℕ) (balanced : Balanced g b) (v : ℕ) (l : v < g.actors) where
  multiplier_positive : 0 < x v → 0 < (m b balanced).0
  multiplier_positive p = positive_factor (m b balanced).0 (x v) (omega (arith, balanced.positive v l, (m b balanced).1 v l p))

  -- Every balanced vector is at or above the numbers that it is a multiple of.
  multiples_below : x v ≤ b v
  multiples_below =
      ⊎_elim
      (λ z. omega arith)
      (λ p. omega (arith, (m b balanced).1 v l p, mul-le-mul_right (x v) (multiplier_positive p)))
      (eq-zero-or-pos (x v))

-- The numbers y after x: k times as large, but at the head of channel e, which has as many as its tail's number asks.
record Next (actors k : ℕ) (e : Channel) (x y : ℕ → ℕ) : Type 0 where
  others : (v : ℕ) → v < actors → v ≢ e.head → y v ≡ x v * k
  head : y e.head * e.consume ≡ x e.tail * k * e.produce

-- Channel c, read as e, has a number at its tail and none at its head; k is the least factor that makes the head's whole.
pub record Extending (g : Graph) (c : ℕ) (e : Channel) (x : ℕ → ℕ) (k : ℕ) : Type 0 where
  pub sound : Sound g
  pub within : c < g.channels
  pub read : Read g c e
  pub grown : Grown g x
  pub given : 0 < x e.tail
  pub missing : x e.head ≡ 0
  pub factor : LeastFactor (x e.tail * e.produce) e.consume k

-- From what the graph says of its channel c.
pub extending : {g : Graph} {c : ℕ} {e : Channel} {x : ℕ → ℕ} {k : ℕ} → Sound g → c < g.channels → Read g c e → Grown g x → 0 < x (g.channel c).tail → x (g.channel c).head ≡ 0
    → LeastFactor (x e.tail * e.produce) e.consume k → Extending g c e x k
extending {g} {c} {e} {x} sound within read grown given missing factor =
    record {
      sound = sound;
      within = within;
      read = read;
      grown = grown;
      given = subst (λ (e : Channel). 0 < x e.tail) read.is given;
      missing = subst (λ (e : Channel). x e.head ≡ 0) read.is missing;
      factor = factor;
    }

module _ {g : Graph} {c : ℕ} {e : Channel} {x : ℕ → ℕ} {k : ℕ} (i : Extending g c e x k) where
  next_multiples : (y : ℕ → ℕ) → Next g.actors k e x y → Multiples g y
  next_multiples y next b balanced =
      let t = e.tail in
      let h = e.head in
      let p = e.produce in
      let n = e.consume in
      let j = (i.grown.multiple b balanced).0 in
      let at : (v : ℕ) → v < g.actors → 0 < x v → b v ≡ j * x v = (i.grown.multiple b balanced).1 in
      let same : b t * p ≡ b h * n = rw i.read.is at (balanced.equal c i.within) in
      let whole : b h * n ≡ j * (x t * p) = omega (arith, ap (λ (m : ℕ). m * p) (at t i.read.tail i.given)) in
      let u = j / k in
      let split : u * k ≡ j = div-mul_cancel k (factor_divides (x t * p) n k j i.factor (subst (λ (m : ℕ). n ∣ m) whole (dvd-mul_left n (b h)))) in (
        u,
        λ v lv pv. ⊎_elim
            (λ (d : v ≡ h). rw d (eq_of_mul-eq-mul_right n i.read.consume.0 (b h) (u * y h) (omega (arith, whole, ap (λ (m : ℕ). m * (x t * p)) split, ap (λ (m : ℕ). u * m) next.head))))
            (λ d. omega (arith, at v lv (positive_factor (x v) k (omega (arith, next.others v lv d))), ap (λ (m : ℕ). m * x v) split, ap (λ (m : ℕ). u * m) (next.others v lv d)))
            (eq_or_ne v h),
      )

  next_above : (y : ℕ → ℕ) → Next g.actors k e x y → AtMost g x y
  next_above y next v lv = ⊎_elim (λ (d : v ≡ e.head). omega (arith, ap x d)) (λ d. omega (arith, next.others v lv d, le-mul_of_pos_right (x v) i.factor.positive)) (eq_or_ne v e.head)

  -- The input reaches the head by way of the tail.
  next_within : (y : ℕ → ℕ) → Next g.actors k e x y → Within g g.input y
  next_within y next v lv p =
      let tail : Reaches g g.input e.tail = i.grown.within e.tail i.read.tail i.given in
      let head : Reaches g g.input e.head = subst (λ (e : Channel). Reaches g g.input e.head) i.read.is (reach_step g g.input c (rw i.read.is tail) i.within) in
      ⊎_elim (λ (d : v ≡ e.head). rw d head) (λ d. i.grown.within v lv (positive_factor (x v) k (omega (arith, next.others v lv d)))) (eq_or_ne v e.head)

  next_some : (y : ℕ → ℕ) → Next g.actors k e x y → 0 < y e.head
  next_some y next = positive_factor (y e.head) e.consume (rw next.head (mul-pos (mul-pos i.given i.factor.positive) i.read.produce.0))

  whole_head : x e.tail * k * e.produce / e.consume * e.consume ≡ x e.tail * k * e.produce
  whole_head = div-mul_cancel e.consume (subst (λ (m : ℕ). e.consume ∣ m) (omega arith) i.factor.divides)

  past_next : (y : ℕ → ℕ) → Next g.actors k e x y → (v : ℕ) → v < g.actors → max_repetition < y v → ¬ Balances g max_repetition
  past_next y next v lv m = past_bound g y v max_repetition (multiples_below g y (next_multiples y next)) lv m

  follow : ℕ → ℕ
  follow = put (λ v. x v * k) e.head (x e.tail * k * e.produce / e.consume)

  follow_next : Next g.actors k e x follow
  unfolding follow
  follow_next = record { others = λ v _ d. put_other (λ v. x v * k) e.head _ v d; head = rw put_same whole_head }

  -- A number that is past the bound once it is k times as large: no balanced vector is within it.
  pub past_scaled : (v : ℕ) → v < g.actors → max_repetition < x v * k → ¬ Balances g max_repetition
  past_scaled v lv m =
      past_next follow follow_next v lv (rw (follow_next.others v lv (λ (d : v ≡ e.head). omega (arith, ap (λ (v : ℕ). x v * k) d, ap (λ (m : ℕ). m * k) i.missing))) m)

  module _ (s : List ℕ) (scaled : (v : ℕ) → v < g.actors → (vector s v ≡ x v * k) × (vector s v ≤ max_repetition)) (n : ℕ) (number : n ≡ vector s e.tail * e.produce / e.consume) (room : g.actors ≤ length s) where
    stored_head : vector (set s e.head n) e.head ≡ n
    stored_head = get_or-set_same s e.head n 0 (omega (arith, i.read.head))

    stored_next : Next g.actors k e x (vector (set s e.head n))
    stored_next =
        record {
          others = λ v lv d. rw (get_or-set_other s e.head v n 0 d) (scaled v lv).0;
          head = rw (stored_head, number, (scaled e.tail i.read.tail).0) whole_head;
        }

    -- A number past the bound at the head: no balanced vector is within it.
    pub past_head : max_repetition < n → ¬ Balances g max_repetition
    past_head m = past_next (vector (set s e.head n)) stored_next e.head i.read.head (rw stored_head m)

-- Where c divides m, the least factor is 1.
pub factor_one : {m c : ℕ} (n : ℕ) → n * c ≡ m → LeastFactor m c 1
factor_one {m} {c} n e = record { positive = omega arith; divides = subst (λ (x : ℕ). c ∣ x) (e ∙ sym (one-mul m)) (dvd-mul_left c n); least = λ j p d. p }

module _ {g : Graph} {c : ℕ} {e : Channel} {before : List ℕ} {k : ℕ} (i : Extending g c e (vector before) k) (s : List ℕ) (scaled : (v : ℕ) → v < g.actors → (vector s v ≡ vector before v * k) × (vector s v ≤ max_repetition)) (n : ℕ) (number : n ≡ vector s e.tail * e.produce / e.consume) (room : g.actors ≤ length s) where
  -- With the head's number stored, every balanced vector is again a multiple, and no other actor has got a number or lost it.
  pub extended : n ≤ max_repetition → Extended g c before (set s e.head n)
  extended b =
      let y = vector (set s e.head n) in
      let next : Next g.actors k e (vector before) y = stored_next i s scaled n number room in
      record {
        grown = record {
          input = omega (arith, i.grown.input, next_above i y next g.input i.sound.input);
          within = next_within i y next;
          bound = λ v lv. stored (λ _ n. n ≤ max_repetition) s e.head n (omega (arith, i.read.head)) b v (λ _. (scaled v lv).1);
          multiple = next_multiples i y next;
        };
        head = rw i.read.is (next_some i y next);
        others = λ v lv d.
            let o : v ≢ e.head = rw i.read.is at d in
            (λ p. positive_factor (vector before v) k (omega (arith, next.others v lv o)), λ p. rw (next.others v lv o) (mul-pos p i.factor.positive));
      }

module _ (g : Graph) (c : ℕ) (e : Channel) (is : g.channel c ≡ e) where
  -- Both ends move as much on the graph's channel exactly if they do on the channel read.
  pub even : (x : ℕ → ℕ) → (x e.tail * e.produce ≡ x e.head * e.consume) ↔ Even g x c
  even x = (λ h. rw is h, λ h. rw is at h)

-- With 1 at the input and no other number, every balanced vector is a multiple.
pub grown_start : (g : Graph) (q : List ℕ) → g.input < length q → ((v : ℕ) → v < g.actors → vector q v ≡ 0) → Grown g (vector (set q g.input 1))
unfolding Along
grown_start g q h none =
    record {
      input = rw (get_or-set_same q g.input 1 0 h) (omega arith);
      within = λ v lv. stored (λ v n. 0 < n → Reaches g g.input v) q g.input 1 h (λ _. ([], refl)) v (λ _ p. absurd (omega (arith, none v lv)));
      bound = λ v lv. stored (λ _ n. n ≤ max_repetition) q g.input 1 h (omega arith) v (λ _. omega (arith, none v lv));
      multiple = λ b e. (b g.input, λ v lv. stored (λ v n. 0 < n → b v ≡ b g.input * n) q g.input 1 h (λ _. omega arith) v (λ _ p. omega (arith, none v lv)));
    }

module _ (g : Graph) (q : List ℕ) (grown : Grown g (vector q)) where
  -- Grown numbers that every channel follows stand at every actor that the input reaches.
  pub grown_reached : Numbered g (vector q) → AllFrom g g.input → (v : ℕ) → v < g.actors → 0 < vector q v
  grown_reached closed all v lv = reach_closed g (λ v. 0 < vector q v) g.input v grown.input closed (all v lv)

  module _ (positive : (v : ℕ) → v < g.actors → 0 < vector q v) where
    -- Where grown numbers stand at every actor, the input reaches every actor. Equal on every channel they are the repetition vector.
    pub grown_equal : Equal g (vector q) → AllFrom g g.input × Repeats g q
    grown_equal e = (
      λ v lv. grown.within v lv (positive v lv),
      record { repetition = settled g (vector q) (multiples_below g (vector q) grown.multiple) (record { positive = positive; equal = e }); bound = grown.bound },
    )

    -- And else no vector is balanced.
    pub grown_unequal : Sound g → (¬ Equal g (vector q)) → ¬ Balances g max_repetition
    grown_unequal sound n a =
        n (λ c l.
        let b = a.0 in
        let j = (grown.multiple b a.1).0 in
        let at : (v : ℕ) → v < g.actors → b v ≡ j * vector q v = λ v lv. (grown.multiple b a.1).1 v lv (positive v lv) in
        let e = g.channel c in
        eq_of_mul-eq-mul_left j (multiplier_positive g (vector q) grown.multiple b a.1 g.input sound.input grown.input) _ _
        (omega (arith, a.1.equal c l, ap (λ (m : ℕ). m * e.produce) (at e.tail (sound.tail c l)), ap (λ (m : ℕ). m * e.consume) (at e.head (sound.head c l)))))

-- So the numbers are found where they settle.
pub grown_settled : (g : Graph) (r : Numbering) (q awaits : List ℕ) → Sound g → Grown g (vector q) → ((v : ℕ) → v < g.actors → 0 < vector q v) → SettleAnswer g r q awaits → RepetitionAnswer g r q awaits
grown_settled g (Ok _) q awaits sound grown positive s = let e = grown_equal g q grown positive s.0 in (e.0, e.1, s.1)
grown_settled g (Err e) q awaits sound grown positive s = subst (λ (e : Unnumbered). RepetitionAnswer g (Err e) q awaits) (sym s.0) (grown_unequal g q grown positive sound s.1)

-- Whom the numbers stand at, and who is next: those known have a number, and those to do are the others whom a channel leads to from
-- somebody known.
pub record Growing (g : Graph) (neighbours : List Neighbours) (known todo : ℕ) (q : List ℕ) : Type 0 where
  pub grown : Grown g (vector q)
  pub counted : (v : ℕ) → v < g.actors → (has known v ≡ 1) ↔ (0 < vector q v)
  pub inside : Below known g.actors
  pub apart : (v : ℕ) → has todo v ≡ 1 → has known v ≡ 0
  pub comes : (v : ℕ) → has todo v ≡ 1 → (t : ℕ) × (has known t ≡ 1) × (has (heads_of neighbours t) v ≡ 1)
  pub leads : (v w : ℕ) → has known v ≡ 1 → has (heads_of neighbours v) w ≡ 1 → 0 < has known w + has todo w

-- With the input alone.
pub growing_start : {g : Graph} {neighbours : List Neighbours} (q : List ℕ) {known todo : ℕ} → Sound g → g.input < length q → ((v : ℕ) → v < g.actors → vector q v ≡ 0)
    → Put 0 g.input 1 known → ((v : ℕ) → has todo v ≡ has (heads_of neighbours g.input) v - has known v) → Growing g neighbours known todo (set q g.input 1)
growing_start {g} {neighbours} q {known} {todo} sound room none p t =
    record {
      grown = grown_start g q room none;
      counted = λ v l. stored (λ v n. (has known v ≡ 1) ↔ (0 < n)) q g.input 1 room (λ _. omega arith, λ _. p.here) v (λ d. (λ h. absurd (d (alone v h)), λ h. absurd (omega (arith, none v l))));
      inside = λ v h. rw (alone v h) sound.input;
      apart = λ v h. omega (arith, t v, has_small (heads_of neighbours g.input) v);
      comes = λ v h. (g.input, p.here, omega (arith, t v, has_small (heads_of neighbours g.input) v));
      leads = λ v w h l.
          let m : has (heads_of neighbours g.input) w ≡ 1 = subst (λ (v : ℕ). has (heads_of neighbours v) w ≡ 1) (alone v h) l in
          omega (arith, t w);
    }
  where
    alone : (v : ℕ) → has known v ≡ 1 → v ≡ g.input
    alone v h = ⊎_elim (λ e. e) (λ d. absurd (omega (arith, p.there v d, has_none v))) (eq_or_ne v g.input)

module _ {g : Graph} {neighbours : List Neighbours} {known todo : ℕ} {q : List ℕ} (sound : Sound g) (told : Words g neighbours) (i : Growing g neighbours known todo q) where
  -- Who is to do is an actor.
  pub growing_actor : (h : ℕ) → has todo h ≡ 1 → h < g.actors
  growing_actor h o =
      let t = i.comes h o in
      let c = told.heads.comes t.0 h (i.inside t.0 t.1) t.2 in
      subst (λ (v : ℕ). v < g.actors) c.3 (sound.head c.0 c.1)

  -- A channel comes to it from somebody known.
  pub growing_some : (h both : ℕ) → has todo h ≡ 1 → ((v : ℕ) → has both v ≡ min (has (tails_of neighbours h) v) (has known v)) → 0 < both
  growing_some h both o m =
      let t = i.comes h o in
      let c = told.heads.comes t.0 h (i.inside t.0 t.1) t.2 in
      let s : has (tails_of neighbours (g.channel c.0).head) (g.channel c.0).tail ≡ 1 = told.tails.holds c.0 c.1 refl in
      let w : has (tails_of neighbours h) t.0 ≡ 1 = rw (c.2, c.3) at s in
      ⊎_elim
      (λ (z : both ≡ 0). absurd (omega (arith, m t.0, t.1, ap (λ (x : ℕ). has x t.0) z, has_none t.0)))
      (λ p. p)
      (eq-zero-or-pos both)

  -- By the channel that stands for the two of them.
  pub growing_joins : (between : List ℕ) → Between g neighbours between → (h t both : ℕ) → has todo h ≡ 1 → ((v : ℕ) → has both v ≡ min (has (tails_of neighbours h) v) (has known v)) → has both t ≡ 1
      → (t < g.actors) × Joins g (get_or between (g.actors * t + h) 0) t h × (0 < vector q t) × (vector q h ≡ 0)
  growing_joins between pairs h t both o m b =
      let k : has known t ≡ 1 = omega (arith, m t, has_small known t, has_small (tails_of neighbours h) t) in
      let lt : t < g.actors = i.inside t k in
      let lh : h < g.actors = growing_actor h o in
      let c = told.tails.comes h t lh (omega (arith, m t, has_small known t, has_small (tails_of neighbours h) t)) in
      let s : has (heads_of neighbours (g.channel c.0).tail) (g.channel c.0).head ≡ 1 = told.heads.holds c.0 c.1 refl in
      let w : has (heads_of neighbours t) h ≡ 1 = rw (c.2, c.3) at s in (
        lt,
        pairs t h lt lh w,
        (i.counted t lt).0 k,
        ⊎_elim (λ z. z) (λ p. absurd (omega (arith, (i.counted h lh).1 p, i.apart h o))) (eq-zero-or-pos (vector q h)),
      )

  -- Once it has its number it is known, and those that it leads to are to do.
  pub growing_turn : {h c known' todo' : ℕ} (both : ℕ) {q' : List ℕ} → has todo h ≡ 1 → (g.channel c).head ≡ h → Extended g c q q' → Put known h (max (has known h) 1) known'
      → ((v : ℕ) → has both v ≡ max (has todo v) (has (heads_of neighbours h) v)) → ((v : ℕ) → has todo' v ≡ has both v - has known' v) → Growing g neighbours known' todo' q'
  growing_turn {h} {c} {known'} {todo'} both {q'} o at x p b t =
      record {
        grown = x.grown;
        counted = λ v l. ⊎_elim
            (λ (e : v ≡ h). (λ _. rw (e, ← at) x.head, λ _. rw e here))
            (λ d. let other : v ≢ (g.channel c).head = rw at d in (
              λ k. (x.others v l other).1 ((i.counted v l).0 (omega (arith, p.there v d))),
              λ k. omega (arith, p.there v d, (i.counted v l).1 ((x.others v l other).0 k)),
            ))
            (eq_or_ne v h);
        inside = λ v k. ⊎_elim (λ (e : v ≡ h). rw e (growing_actor h o)) (λ d. i.inside v (omega (arith, p.there v d))) (eq_or_ne v h);
        apart = λ v k. omega (arith, t v, b v, has_small todo v, has_small (heads_of neighbours h) v);
        comes = λ v k. ⊎_elim
            (λ z. (h, here, omega (arith, t v, b v, has_small (heads_of neighbours h) v)))
            (λ m. let u = i.comes v m in (u.0, kept u.0 u.1, u.2))
            (has_bit todo v);
        leads = λ v w k l. ⊎_elim
            (λ (e : v ≡ h).
            let m : has (heads_of neighbours h) w ≡ 1 = subst (λ (v : ℕ). has (heads_of neighbours v) w ≡ 1) e l in
            omega (arith, t w, b w))
            (λ d. more w (i.leads v w (omega (arith, p.there v d)) l))
            (eq_or_ne v h);
      }
    where
      here : has known' h ≡ 1
      here = omega (arith, p.here, has_small known h)

      kept : (v : ℕ) → has known v ≡ 1 → has known' v ≡ 1
      kept v k = ⊎_elim (λ (e : v ≡ h). rw e here) (λ d. omega (arith, p.there v d)) (eq_or_ne v h)

      more : (w : ℕ) → 0 < has known w + has todo w → 0 < has known' w + has todo' w
      more w s = ⊎_elim
          (λ z. omega (arith, t w, b w))
          (λ k. omega (arith, kept w k))
          (has_bit known w)

  -- Where nobody is left to do, every channel from somebody with a number leads to one.
  growing_numbered : todo ≡ 0 → Numbered g (vector q)
  growing_numbered z c l p =
      let tail = (g.channel c).tail in
      let head = (g.channel c).head in
      let k : has known tail ≡ 1 = (i.counted tail (sound.tail c l)).1 p in
      (i.counted head (sound.head c l)).0
      (omega (arith, i.leads tail head k (told.heads.holds c l refl), ap (λ (x : ℕ). has x head) z, has_none head, has_small known head))

  -- Where not all are and nobody is left to do, the input does not reach them all.
  pub growing_unreached : todo ≡ 0 → (¬ Covers known g.actors) → ¬ AllFrom g g.input
  growing_unreached z n all = n (λ v l. (i.counted v l).1 (grown_reached g q i.grown (growing_numbered z) all v l))

module _ (e : Channel) (q : ℕ → ℕ) where
  -- From an actor to itself what one firing takes is enough.
  pub enough_self : e.tail ≡ e.head → e.consume ≡ enough e q
  unfolding enough
  enough_self h = go (eqb e.tail e.head) refl
    where
      go : (r : Bool) → eqb e.tail e.head ≡ r → e.consume ≡ cond r e.consume (q e.tail * e.produce)
      go true p = refl
      go false p = absurd (eqb-false e.tail e.head p h)

  -- From one actor to another, all that the tail puts.
  pub enough_other : e.tail ≢ e.head → q e.tail * e.produce ≡ enough e q
  unfolding enough
  enough_other d = go (eqb e.tail e.head) refl
    where
      go : (r : Bool) → eqb e.tail e.head ≡ r → q e.tail * e.produce ≡ cond r e.consume (q e.tail * e.produce)
      go true p = absurd (d (eqb-true e.tail e.head p))
      go false p = refl

-- Numbers that stand as they were are 1 times as large.
pub unscaled : {g : Graph} (q : List ℕ) → Grown g (vector q) → (v : ℕ) → v < g.actors → (vector q v ≡ vector q v * 1) × (vector q v ≤ max_repetition)
unscaled q grown v l = (omega arith, grown.bound v l)

-- The channels before c are even, and who has to wait for whom by them is gathered.
pub record Settling (g : Graph) (q : ℕ → ℕ) (c : ℕ) (awaits : List ℕ) : Type 0 where
  pub evens : (d : ℕ) → d < c → Even g q d
  pub gathers : Gathers g.actors c (λ d. (g.channel d).head) (λ d. (g.channel d).tail) (waits g q) (vector awaits)

-- Before the first channel.
pub settling_start : (g : Graph) (q : ℕ → ℕ) (awaits : List ℕ) → ((v : ℕ) → v < g.actors → vector awaits v ≡ 0) → Settling g q 0 awaits
settling_start g q awaits none = record { evens = λ d l. absurd (omega arith); gathers = gather_start g.actors _ _ (waits g q) (vector awaits) none }

-- One channel more, read as e.
pub settling_turn : {g : Graph} {q : ℕ → ℕ} {c : ℕ} {before after : List ℕ} (e : Channel) → Settling g q c before → g.channel c ≡ e → Even g q c
    → Marked e.head e.tail (cond (ltb e.tokens (enough e q)) 1 0) before after → Settling g q (c + 1) after
settling_turn {g} {q} {c} {before} {after} e s is h m = record {
  evens = below_more (Even g q) c s.evens h;
  gathers = gather_vector s.gathers (subst (λ (e : Channel). Marked e.head e.tail (cond (ltb e.tokens (enough e q)) 1 0) before after) (sym is) m);
}

-- After the last.
pub settling_end : {g : Graph} {q : ℕ → ℕ} {c : ℕ} {awaits : List ℕ} → Settling g q c awaits → c ≡ g.channels → Equal g q × Awaits g q (vector awaits)
settling_end {g} {q} {c} {awaits} s e =
    let t : Settling g q g.channels awaits = subst (λ (c : ℕ). Settling g q c awaits) e s in
    (t.evens, t.gathers)
