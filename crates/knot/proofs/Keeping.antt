-- The channels within the core, copied, and the least share of its firings.
use mathlib.Core.Path.{◌≡◌, refl, sym, ap, ◌∙◌}
use mathlib.Core.Logic.{⊎_elim, ◌≢◌}
use mathlib.Core.Bool.{Bool, true, false}
use mathlib.Core.List.{List, ◌++◌}
use Prim.Native.Nat.{ℕ, ◌+◌, ◌-◌, ◌*◌, ◌/◌, ◌%◌, ◌<◌, ◌≤◌, ◌∣◌, max}
use native.Mathlib.Nat.{add-zero, dvd_refl, dvd-zero, dvd_trans, dvd-mod_iff, one-dvd, mul-div_cancel', mul-one, mul-zero, zero-div, le_refl}
use native.Mathlib.Omega.{arith}
use lib.Dec.{ltb}
use borrow.Rule.Slice.PartMut.{put_mid, post_of}
use lib.ListN.{length, length-drop, get_or, take, drop, get_or-append}
use lib.Seq.{get_or-take, get_or-drop, get_or-append_right, length-take-le}
use borrow.Author.Count.{below_more}
use Rattle.sdf.specs.Graph.{Channel, Graph}
use Rattle.sdf.proofs.Numbers.{lt_or_ge, eq_or_ne, chosen, passed}
use Rattle.sdf.proofs.Settle.{put, put_same, put_other}
use Rattle.sets.specs.Decides.{Decides}
use Rattle.sets.specs.Sets.{has, Put}
use Rattle.sets.proofs.Bits.{has_none, has_small, has_bit}
use Rattle.trial.specs.Flat.{channel_at, graph_of, vector}
use Rattle.trial.specs.Knot.{enough, waits, Kept, Shares, Copied, Unit}

-- From an actor to itself, what one firing takes is enough.
pub enough_own : (e : Channel) (q : ℕ → ℕ) → e.tail ≡ e.head → enough e q ≡ e.consume
unfolding enough
enough_own e q same = chosen e.consume (q e.tail * e.produce) same

-- From another, what the tail puts there in all.
pub enough_other : (e : Channel) (q : ℕ → ℕ) → e.tail ≢ e.head → enough e q ≡ q e.tail * e.produce
unfolding enough
enough_other e q n = passed e.consume (q e.tail * e.produce) n

-- An answer decides that it is yes, with two facts that hold.
answers : {A B : Type 0} (r : Bool) → A → B → Decides r ((r ≡ true) × A × B)
answers true a b = (refl, a, b)
answers false a b = λ p. let no : false ≡ true = p.0 in let z : ◌≡◌ {A = ℕ} 0 1 = cc in absurd (omega arith)

-- A channel with both ends in the core: what is left to ask is whether its head has to wait.
pub within_asks : (g : Graph) (q : ℕ → ℕ) (core c : ℕ) (e : Channel) (tokens need : ℕ) → e ≡ g.channel c → has core e.tail ≢ 0 → has core e.head ≢ 0 → tokens ≡ e.tokens → need ≡ enough e q
    → Decides (ltb tokens need) ((waits g q c ≡ true) × (has core (g.channel c).tail ≡ 1) × (has core (g.channel c).head ≡ 1))
within_asks g q core c e tokens need is t h same all =
    rw (← is, same, all) (answers (ltb e.tokens (enough e q)) (omega (arith, has_small core e.tail)) (omega (arith, has_small core e.head)))

-- Two channels of flat lists are the same where their five numbers are.
same_channel : (a b : List ℕ) (i j : ℕ) → ((k : ℕ) → k < 5 → get_or a (5 * i + k) 0 ≡ get_or b (5 * j + k) 0) → channel_at a i ≡ channel_at b j
same_channel a b i j same =
    let p : get_or a (5 * i) 0 ≡ get_or b (5 * j) 0 = rw (add-zero (5 * i), add-zero (5 * j)) at (same 0 (omega arith)) in
    let q = same 1 (omega arith) in
    let r = same 2 (omega arith) in
    let s = same 3 (omega arith) in
    let t = same 4 (omega arith) in
    cc

module _ (xs ys : List ℕ) (a k : ℕ) (size : length ys ≡ k) (room : a + k ≤ length xs) where
  front : length (take a xs) ≡ a
  front = length-take-le a xs (omega arith)

  -- Where k numbers from place a on are replaced, the new ones stand there,
  mid_inside : (j : ℕ) → j < k → get_or (put_mid a k xs ys) (a + j) 0 ≡ get_or ys j 0
  mid_inside j inside =
      let e : a + j - length (take a xs) ≡ j = omega (arith, front) in
      get_or-append_right (take a xs) (ys ++ post_of a k xs) (a + j) 0 (omega (arith, front)) ∙ rw e (get_or-append ys (post_of a k xs) 0 j (omega (arith, size)))

  -- and what stood before them
  mid_before : (i : ℕ) → i < a → get_or (put_mid a k xs ys) i 0 ≡ get_or xs i 0
  mid_before i before = get_or-append (take a xs) (ys ++ post_of a k xs) 0 i (omega (arith, front)) ∙ get_or-take a xs i 0 before

  -- or behind them still does.
  mid_behind : (i : ℕ) → a + k ≤ i → get_or (put_mid a k xs ys) i 0 ≡ get_or xs i 0
  mid_behind i behind =
      let e : a + (k + (i - length (take a xs) - length ys)) ≡ i = omega (arith, front, size) in
      get_or-append_right (take a xs) (ys ++ post_of a k xs) i 0 (omega (arith, front))
      ∙ get_or-append_right ys (post_of a k xs) (i - length (take a xs)) 0 (omega (arith, front, size))
      ∙ get_or-drop k (drop a xs) (i - length (take a xs) - length ys) 0
      ∙ get_or-drop a xs (k + (i - length (take a xs) - length ys)) 0
      ∙ ap (λ (x : ℕ). get_or xs x 0) e

-- The numbers of a channel in another's place are that channel there, and the other channels are as they were.
pub copied : (flat before five : List ℕ) (c d k m : ℕ) → k ≡ 5 → m ≡ 5 → c < length flat / 5 → d < length before / 5 → five ≡ take m (drop (5 * c) flat)
    → Copied flat c d before (put_mid (5 * d) k before five)
copied flat before five c d k m count same_count room room' is =
    let size : length five ≡ k = rw is (length-take-le m (drop (5 * c) flat) (rw length-drop (omega arith)) ∙ omega arith) in
    let fits : 5 * d + k ≤ length before = omega arith in
    record {
      there = same_channel _ flat d c
          (λ j l. mid_inside before five (5 * d) k size fits j (omega arith) ∙ rw is (get_or-take m (drop (5 * c) flat) j 0 (omega arith) ∙ get_or-drop (5 * c) flat j 0));
      others = λ i n. same_channel _ before i i (λ j l. ⊎_elim
          (λ h. mid_before before five (5 * d) k size fits (5 * i + j) (omega arith))
          (λ h. mid_behind before five (5 * d) k size fits (5 * i + j) (omega (arith, n)))
          (lt_or_ge i d));
    }

-- Of the first c channels those within the core whose heads have to wait stand first in the list, n of them.
pub record Keeping (g : Graph) (q : ℕ → ℕ) (core c n : ℕ) (kept : List ℕ) : Type 0 where
  pub fewer : n ≤ c
  pub pick : ℕ → ℕ
  pub picked : (d : ℕ) → d < n → (pick d < c) × (channel_at kept d ≡ g.channel (pick d))
  pub tails : (d : ℕ) → d < n → has core (channel_at kept d).tail ≡ 1
  pub heads : (d : ℕ) → d < n → has core (channel_at kept d).head ≡ 1
  pub waiting : (i : ℕ) → i < c → waits g q i ≡ true → has core (g.channel i).tail ≡ 1 → has core (g.channel i).head ≡ 1 → (d : ℕ) × (d < n) × (channel_at kept d ≡ g.channel i)

-- Before the first channel.
pub keeping_start : (g : Graph) (q : ℕ → ℕ) (core : ℕ) (kept : List ℕ) → Keeping g q core 0 0 kept
keeping_start g q core kept =
    record {
      fewer = le_refl 0;
      pick = λ d. d;
      picked = λ d l. absurd (omega arith);
      tails = λ d l. absurd (omega arith);
      heads = λ d l. absurd (omega arith);
      waiting = λ i l. absurd (omega arith);
    }

-- A channel that is not kept.
pub keeping_skip : {g : Graph} {q : ℕ → ℕ} {core c n : ℕ} {kept : List ℕ} → Keeping g q core c n kept → ¬ ((waits g q c ≡ true) × (has core (g.channel c).tail ≡ 1) × (has core (g.channel c).head ≡ 1)) → Keeping g q core (c + 1) n kept
keeping_skip {g} {q} {core} {c} {n} {kept} k out =
    record {
      fewer = omega (arith, k.fewer);
      pick = k.pick;
      picked = λ d l. (omega (arith, (k.picked d l).0), (k.picked d l).1);
      tails = k.tails;
      heads = k.heads;
      waiting = below_more
          (λ i. waits g q i ≡ true → has core (g.channel i).tail ≡ 1 → has core (g.channel i).head ≡ 1 → (d : ℕ) × (d < n) × (channel_at kept d ≡ g.channel i))
          c k.waiting (λ w t h. absurd (out (w, t, h)));
    }

-- A channel that is kept.
pub keeping_turn : {g : Graph} {q : ℕ → ℕ} {core c n : ℕ} {kept after : List ℕ} → Keeping g q core c n kept → (waits g q c ≡ true) × (has core (g.channel c).tail ≡ 1) × (has core (g.channel c).head ≡ 1)
    → channel_at after n ≡ g.channel c → ((i : ℕ) → i ≢ n → channel_at after i ≡ channel_at kept i) → Keeping g q core (c + 1) (n + 1) after
keeping_turn {g} {q} {core} {c} {n} {kept} {after} k inner there others =
    record {
      fewer = omega (arith, k.fewer);
      pick = put k.pick n c;
      picked = below_more (λ d. (put k.pick n c d < c + 1) × (channel_at after d ≡ g.channel (put k.pick n c d))) n
          (λ d l. rw (put_other k.pick n c d (λ e. omega arith)) (omega (arith, (k.picked d l).0), others d (λ e. omega arith) ∙ (k.picked d l).1))
          (rw (put_same k.pick n c) (omega arith, there));
      tails = below_more (λ d. has core (channel_at after d).tail ≡ 1) n
          (λ d l. ap (λ (e : Channel). has core e.tail) (others d (λ e. omega arith)) ∙ k.tails d l)
          (ap (λ (e : Channel). has core e.tail) there ∙ inner.1);
      heads = below_more (λ d. has core (channel_at after d).head ≡ 1) n
          (λ d l. ap (λ (e : Channel). has core e.head) (others d (λ e. omega arith)) ∙ k.heads d l)
          (ap (λ (e : Channel). has core e.head) there ∙ inner.2);
      waiting = below_more
          (λ i. waits g q i ≡ true → has core (g.channel i).tail ≡ 1 → has core (g.channel i).head ≡ 1 → (d : ℕ) × (d < n + 1) × (channel_at after d ≡ g.channel i))
          c
          (λ i l w t h. let f = k.waiting i l w t h in (f.0, omega (arith, f.1), others f.0 (λ e. omega (arith, f.1)) ∙ f.2))
          (λ w t h. (n, omega arith, there));
    }

-- All channels are passed: the first n of the list are the kept ones.
pub keeping_end : {q : ℕ → ℕ} {core n : ℕ} {kept : List ℕ} (actors input output : ℕ) (flat : List ℕ) → Keeping (graph_of actors input output flat) q core (length flat / 5) n kept → 5 * n ≤ length kept
    → Kept (graph_of actors input output flat) (graph_of actors input output (take (5 * n) kept)) q core
keeping_end {q} {core} {n} {kept} actors input output flat k room =
    let size : length (take (5 * n) kept) / 5 ≡ n = rw (length-take-le (5 * n) kept room) (omega arith) in
    record {
      actors = refl;
      pick = k.pick;
      picked = λ d l. let m : d < n = rw size at l in ((k.picked d m).0, same d m ∙ (k.picked d m).1);
      tails = λ d l. let m : d < n = rw size at l in ap (λ (e : Channel). has core e.tail) (same d m) ∙ k.tails d m;
      heads = λ d l. let m : d < n = rw size at l in ap (λ (e : Channel). has core e.head) (same d m) ∙ k.heads d m;
      waiting = λ i l w t h. let f = k.waiting i l w t h in (f.0, rw size f.1, same f.0 f.1 ∙ f.2);
    }
  where
    same : (d : ℕ) → d < n → channel_at (take (5 * n) kept) d ≡ channel_at kept d
    same d l =
        same_channel (take (5 * n) kept) kept d d (λ k h. get_or-take (5 * n) kept (5 * d + k) 0 (omega arith))

-- What divides x and y divides a and b.
pub record Dividing (a b x y : ℕ) : Type 0 where
  pub positive : 0 < x
  pub divides : (d : ℕ) → d ∣ x → d ∣ y → (d ∣ a) × (d ∣ b)

-- A division: the rest takes the place of the larger.
pub dividing_turn : {a b x y : ℕ} → Dividing a b x y → 0 < y → Dividing a b y (x % y)
dividing_turn {x = x} {y = y} s p = record { positive = p; divides = λ d l m. s.divides d ((dvd-mod_iff d {m = x} {n = y} l).0 m) l }

-- Nothing is left.
pub dividing_end : {a b x y : ℕ} → Dividing a b x y → y ≡ 0 → (0 < x) × (x ∣ a) × (x ∣ b)
dividing_end {x = x} {y = y} s e =
    let none : x ∣ y = rw e (dvd-zero x) in
    let both = s.divides x (dvd_refl x) none in (s.positive, both.0, both.1)

-- d divides the numbers of those of the core who are passed.
pub record Uniting (q : ℕ → ℕ) (core todo d : ℕ) : Type 0 where
  pub inside : (v : ℕ) → has todo v ≡ 1 → has core v ≡ 1
  pub divides : (v : ℕ) → has core v ≡ 1 → has todo v ≡ 0 → d ∣ q v

-- One more is passed.
pub uniting_turn : {q : ℕ → ℕ} {core todo d v e less : ℕ} → Uniting q core todo d → Put todo v 0 less → e ∣ q v → e ∣ d → Uniting q core less e
uniting_turn {q} {core} {todo} {d} {v} {e} {less} s off own rest =
    record {
      inside = λ w h. ⊎_elim
          (λ (same : w ≡ v). absurd (omega (arith, ap (has less) same, off.here)))
          (λ n. s.inside w (sym (off.there w n) ∙ h))
          (eq_or_ne w v);
      divides = λ w h z. ⊎_elim
          (λ (same : w ≡ v). rw same own)
          (λ n. dvd_trans e rest (s.divides w h (sym (off.there w n) ∙ z)))
          (eq_or_ne w v);
    }

-- 1 divides every number.
pub unit_one : (actors : ℕ) (q : ℕ → ℕ) (core d : ℕ) → d ≡ 1 → Unit actors q core d
unit_one actors q core d e = record { divides = λ v l h. rw e (one-dvd (q v)); positive = omega arith }

-- All are passed.
pub uniting_end : {q : ℕ → ℕ} {core todo d e : ℕ} (actors : ℕ) → Uniting q core todo d → todo ≡ 0 → e ≡ max d 1 → Unit actors q core e
uniting_end {q} {core} {todo} {d} {e} actors s z most =
    ⊎_elim
    (λ p. let same : e ≡ d = omega arith in record { divides = λ v l h. rw same (s.divides v h (ap (λ (x : ℕ). has x v) z ∙ has_none v)); positive = omega arith })
    (λ none. unit_one actors q core e (omega arith))
    (lt_or_ge 0 d)

-- A number, or 0 for those outside the set, is at most the number.
pub share_fits : (n set v : ℕ) {bit : ℕ} → bit ≡ has set v → n * bit ≤ n
share_fits n set v same = ⊎_elim (λ z. omega (arith, ap (λ (x : ℕ). n * x) (same ∙ z))) (λ o. omega (arith, ap (λ (x : ℕ). n * x) (same ∙ o))) (has_bit set v)

-- Each entry the number of one of the core by what divides them all, and 0 of the others: these are shares.
pub shares_end : {q : ℕ → ℕ} {core d : ℕ} (share : List ℕ) (actors : ℕ) → Unit actors q core d → ((v : ℕ) → v < actors → get_or share v 0 ≡ q v * has core v / d) → Shares actors q core (vector share)
shares_end {q} {core} {d} share actors u f =
    record {
      times = d;
      positive = u.positive;
      inside = λ v l h.
          let e : q v * has core v / d ≡ q v / d = rw (h, mul-one (q v)) in
          sym (ap (λ (x : ℕ). d * x) (f v l ∙ e) ∙ mul-div_cancel' d (u.divides v l h));
      outside = λ v l h.
          let e : q v * has core v / d ≡ 0 = rw (h, mul-zero (q v), zero-div d) in
          f v l ∙ e;
    }
