-- Sets that are gathered from a list, one entry at a time.
use mathlib.Core.Path.{◌≡◌, refl, sym, ap, ◌∙◌, subst}
use mathlib.Core.Bool.{Bool, true, false, cond, true≢false}
use mathlib.Core.Logic.{◌⊎◌, inl, inr, ⊎_elim, ◌≢◌}
use mathlib.Core.List.{List}
use Prim.Native.Nat.{ℕ, zero, suc, ◌+◌, ◌<◌, max}
use native.Mathlib.Omega.{arith}
use native.Mathlib.Numerals.{add-one}
use Rattle.std.proofs.lemmas.Grind.{not_there}
use Rattle.sdf.proofs.Numbers.{eq_or_ne}
use Rattle.sets.specs.Sets.{has, Below, Put, Marked, Gathers}
use Rattle.sets.specs.Vector.{vector}
use Rattle.sets.proofs.Bits.{has_none, has_small}

-- Before the first entry: the sets are empty.
pub gather_start : (room : ℕ) (at of : ℕ → ℕ) (picked : ℕ → Bool) (set : ℕ → ℕ) → ((v : ℕ) → v < room → set v ≡ 0) → Gathers room 0 at of picked set
gather_start room at of picked set z =
    record {
      holds = λ i l. absurd (omega arith);
      comes = λ v w l h. absurd (omega (arith, ap (λ (x : ℕ). has x w) (z v l), has_none w));
    }

-- Who is in a set stays there where an entry is put into it.
pub put_keeps : {set v new : ℕ} (b : Bool) → Put set v (max (has set v) (cond b 1 0)) new → (w : ℕ) → has set w ≡ 1 → has new w ≡ 1
put_keeps {set} {v} {new} true p w h = ⊎_elim
    (λ (e : w ≡ v). omega (arith, ap (has new) e, p.here, has_small set v))
    (λ d. p.there w d ∙ h)
    (eq_or_ne w v)
put_keeps {set} {v} {new} false p w h = ⊎_elim
    (λ (e : w ≡ v). omega (arith, ap (has new) e, ap (has set) e, p.here))
    (λ d. p.there w d ∙ h)
    (eq_or_ne w v)

-- Who is in a set after an entry is put into it was there, or is the entry and is put.
pub put_comes : {set v new : ℕ} (b : Bool) → Put set v (max (has set v) (cond b 1 0)) new → (w : ℕ) → has new w ≡ 1 → (has set w ≡ 1) ⊎ ((v ≡ w) × (b ≡ true))
put_comes {set} {v} {new} true p w h = ⊎_elim (λ e. inr (sym e, refl)) (λ d. inl (sym (p.there w d) ∙ h)) (eq_or_ne w v)
put_comes {set} {v} {new} false p w h = ⊎_elim
    (λ (e : w ≡ v). inl (omega (arith, ap (has new) e, ap (has set) e, p.here)))
    (λ d. inl (sym (p.there w d) ∙ h))
    (eq_or_ne w v)

-- An entry that is put is in the set.
pub put_holds : {set v new : ℕ} (b : Bool) → b ≡ true → Put set v (max (has set v) (cond b 1 0)) new → has new v ≡ 1
put_holds {set} {v} {new} true e p = omega (arith, p.here, has_small set v)
put_holds {set} {v} {new} false e p = absurd (true≢false (sym e))

-- One entry more, where Q says of which actors the sets are as they were: of those below `room`, and of those that had an entry.
turn : (Q : ℕ → Type 0) {room n : ℕ} {at of : ℕ → ℕ} {picked : ℕ → Bool} {set set' : ℕ → ℕ} → ((v : ℕ) → v < room → Q v) → ((i : ℕ) → i < n → Q (at i))
    → Gathers room n at of picked set → Put (set (at n)) (of n) (max (has (set (at n)) (of n)) (cond (picked n) 1 0)) (set' (at n)) → ((v : ℕ) → Q v → v ≢ at n → set' v ≡ set v)
    → Gathers room (suc n) at of picked set'
turn Q {room} {n} {at} {of} {picked} {set} {set'} inside had g p same =
    record {
      holds = λ i l k. ⊎_elim
          (λ (e : i ≡ n). subst (λ (x : ℕ). has (set' (at x)) (of x) ≡ 1) (sym e) (put_holds (picked n) (sym (ap picked e) ∙ k) p))
          (λ d. let b : i < n = omega arith in ⊎_elim
          (λ (e : at i ≡ at n).
          subst (λ (x : ℕ). has (set' x) (of i) ≡ 1) (sym e)
          (put_keeps (picked n) p (of i) (subst (λ (x : ℕ). has (set x) (of i) ≡ 1) e (g.holds i b k))))
          (λ (f : at i ≢ at n). ap (λ (x : ℕ). has x (of i)) (same (at i) (had i b) f) ∙ g.holds i b k)
          (eq_or_ne (at i) (at n)))
          (eq_or_ne i n);
      comes = λ v w l h. ⊎_elim
          (λ (e : v ≡ at n). ⊎_elim
          (λ o. old v w l (subst (λ (x : ℕ). has (set x) w ≡ 1) (sym e) o))
          (λ q. (n, omega arith, sym e, q.0, q.1))
          (put_comes (picked n) p w (subst (λ (x : ℕ). has (set' x) w ≡ 1) e h)))
          (λ (d : v ≢ at n). old v w l (ap (λ (x : ℕ). has x w) (sym (same v (inside v l) d)) ∙ h))
          (eq_or_ne v (at n));
    }
  where
    old : (v w : ℕ) → v < room → has (set v) w ≡ 1 → (i : ℕ) × (i < suc n) × (at i ≡ v) × (of i ≡ w) × (picked i ≡ true)
    old v w l h = let c = g.comes v w l h in (c.0, omega (arith, c.1), c.2, c.3, c.4)

-- One entry more: the set of its actor has it too where it is picked, and the other sets are as they were.
pub gather_turn : {room n : ℕ} {at of : ℕ → ℕ} {picked : ℕ → Bool} {set set' : ℕ → ℕ} → Gathers room n at of picked set
    → Put (set (at n)) (of n) (max (has (set (at n)) (of n)) (cond (picked n) 1 0)) (set' (at n)) → ((v : ℕ) → v ≢ at n → set' v ≡ set v) → Gathers room (suc n) at of picked set'
gather_turn g p same = turn (λ _. Unit {0}) (λ v l. tt) (λ i l. tt) g p (λ v _ d. same v d)

-- The same, where the other sets below `room` are as they were, and no entry is of an actor past it.
pub gather_turn_within : {room n : ℕ} {at of : ℕ → ℕ} {picked : ℕ → Bool} {set set' : ℕ → ℕ} → ((i : ℕ) → i < n → at i < room) → Gathers room n at of picked set
    → Put (set (at n)) (of n) (max (has (set (at n)) (of n)) (cond (picked n) 1 0)) (set' (at n)) → ((v : ℕ) → v < room → v ≢ at n → set' v ≡ set v) → Gathers room (suc n) at of picked set'
gather_turn_within {room} b g p same = turn (λ v. v < room) (λ v l. l) b g p same

-- What is gathered from the first entries, counted by `suc` or by `+ 1`.
pub gather_plus : {room n : ℕ} {at of : ℕ → ℕ} {picked : ℕ → Bool} {set : ℕ → ℕ} → Gathers room (suc n) at of picked set → Gathers room (n + 1) at of picked set
gather_plus {room} {n} {at} {of} {picked} {set} g = subst (λ (m : ℕ). Gathers room m at of picked set) (sym (add-one n)) g

-- One entry more, counted by `+ 1`.
pub gather_next : {room n : ℕ} {at of : ℕ → ℕ} {picked : ℕ → Bool} {set set' : ℕ → ℕ} → Gathers room n at of picked set
    → Put (set (at n)) (of n) (max (has (set (at n)) (of n)) (cond (picked n) 1 0)) (set' (at n)) → ((v : ℕ) → v ≢ at n → set' v ≡ set v) → Gathers room (n + 1) at of picked set'
gather_next g p same = gather_plus (gather_turn g p same)

-- One entry more that is not picked changes nothing.
pub gather_skip : {room n : ℕ} {at of : ℕ → ℕ} {picked : ℕ → Bool} {set : ℕ → ℕ} → Gathers room n at of picked set → picked n ≡ false → Gathers room (n + 1) at of picked set
gather_skip {room} {n} {at} {of} {picked} {set} g z =
    record {
      holds = λ i l k. ⊎_elim
          (λ (e : i ≡ n). absurd (true≢false (sym k ∙ ap picked e ∙ z)))
          (λ d. g.holds i (omega arith) k)
          (eq_or_ne i n);
      comes = λ v w l h. let c = g.comes v w l h in (c.0, omega (arith, c.1), c.2, c.3, c.4);
    }

-- Equal sets are gathered from the same.
pub gather_same : {room n : ℕ} {at of : ℕ → ℕ} {picked : ℕ → Bool} {set set' : ℕ → ℕ} → Gathers room n at of picked set → ((v : ℕ) → set' v ≡ set v) → Gathers room n at of picked set'
gather_same {at = at} {of = of} g e =
    record {
      holds = λ i l k. ap (λ (x : ℕ). has x (of i)) (e (at i)) ∙ g.holds i l k;
      comes = λ v w l h. g.comes v w l (ap (λ (x : ℕ). has x w) (sym (e v)) ∙ h);
    }

-- Sets that are equal below `room` are gathered from the same, where no entry is of an actor past it.
pub gather_ext : {room n : ℕ} {at of : ℕ → ℕ} {picked : ℕ → Bool} {set set' : ℕ → ℕ} → ((i : ℕ) → i < n → at i < room) → Gathers room n at of picked set → ((v : ℕ) → v < room → set' v ≡ set v) → Gathers room n at of picked set'
gather_ext {at = at} {of = of} b g e =
    record {
      holds = λ i l k. ap (λ (x : ℕ). has x (of i)) (e (at i) (b i l)) ∙ g.holds i l k;
      comes = λ v w l h. g.comes v w l (ap (λ (x : ℕ). has x w) (sym (e v l)) ∙ h);
    }

-- The same is gathered from lists with the same first entries.
pub gather_from : {room n : ℕ} {at at' of of' : ℕ → ℕ} {picked picked' : ℕ → Bool} {set : ℕ → ℕ} → Gathers room n at of picked set
    → ((i : ℕ) → i < n → (at' i ≡ at i) × (of' i ≡ of i) × (picked' i ≡ picked i)) → Gathers room n at' of' picked' set
gather_from g e =
    record {
      holds = λ i l k. rw ((e i l).0, (e i l).1) (g.holds i l (sym (e i l).2 ∙ k));
      comes = λ v w l h.
          let c = g.comes v w l h in
          let s = e c.0 c.1 in
          (c.0, c.1, s.0 ∙ c.2, s.1 ∙ c.3, s.2 ∙ c.4);
    }

-- The sets have nobody past m, where no entry is past it.
pub gather_below : {room n : ℕ} {at of : ℕ → ℕ} {picked : ℕ → Bool} {set : ℕ → ℕ} (m : ℕ) → Gathers room n at of picked set → ((i : ℕ) → i < n → of i < m) → (v : ℕ) → v < room → Below (set v) m
gather_below m g b v l w h = let c = g.comes v w l h in subst (λ (x : ℕ). x < m) c.3 (b c.0 c.1)

-- One entry more, gathered in a list with one word for each actor.
pub gather_vector : {room n : ℕ} {at of : ℕ → ℕ} {picked : ℕ → Bool} {before after : List ℕ}
    → Gathers room n at of picked (vector before) → Marked (at n) (of n) (cond (picked n) 1 0) before after → Gathers room (n + 1) at of picked (vector after)
gather_vector g m = gather_next g m.put m.kept

-- One entry more, gathered in a single word.
pub gather_single : {n : ℕ} {of : ℕ → ℕ} {picked : ℕ → Bool} {set set' : ℕ}
    → Gathers 1 n (λ _. 0) of picked (λ _. set) → Put set (of n) (max (has set (of n)) (cond (picked n) 1 0)) set' → Gathers 1 (n + 1) (λ _. 0) of picked (λ _. set')
gather_single g p = gather_plus (gather_turn_within (λ i l. omega arith) g p (λ v l d. absurd (d (omega arith))))

-- A place below n at which P holds, or that it holds at none of them. Whether it holds can be asked at each.
look_for : (P : ℕ → Type 0) → ((i : ℕ) → P i ⊎ (¬ P i)) → (n : ℕ) → ((i : ℕ) × (i < n) × P i) ⊎ ((i : ℕ) → i < n → ¬ P i)
look_for P ask zero = inr (λ i l. absurd (omega arith))
look_for P ask (suc n) = ⊎_elim
    (λ f. inl (f.0, omega (arith, f.1), f.2))
    (λ none. ⊎_elim
    (λ (p : P n). inl (n, omega arith, p))
    (λ no. inr (λ i l. ⊎_elim (λ (e : i ≡ n). subst (λ (x : ℕ). ¬ P x) (sym e) no) (λ d. none i (omega (arith, d))) (eq_or_ne i n)))
    (ask n))
    (look_for P ask n)

-- Whether entry i is picked, and says that w is in the set of v.
ask_entry : (at of : ℕ → ℕ) (picked : ℕ → Bool) (v w i : ℕ) → let P = (at i ≡ v) × (of i ≡ w) × (picked i ≡ true) in P ⊎ (¬ P)
ask_entry at of picked v w i = ⊎_elim
    (λ (a : at i ≡ v). ⊎_elim
    (λ (b : of i ≡ w). ⊎_elim (λ (k : picked i ≡ true). inl (a, b, k)) (λ no. inr (λ p. no p.2)) (is_or_not (picked i)))
    (λ no. inr (λ p. no p.1))
    (eq_or_ne (of i) w))
    (λ no. inr (λ p. no p.0))
    (eq_or_ne (at i) v)
  where
    is_or_not : (b : Bool) → (b ≡ true) ⊎ (¬ (b ≡ true))
    is_or_not true = inl refl
    is_or_not false = inr (λ e. true≢false (sym e))

-- What is only known to be gathered is gathered: each entry is found by going through the list.
pub gathers_of : {room n : ℕ} {at of : ℕ → ℕ} {picked : ℕ → Bool} {set : ℕ → ℕ} → ∥ Gathers room n at of picked set ∥₁ → Gathers room n at of picked set
gathers_of {room} {n} {at} {of} {picked} {set} t =
    record {
      holds = λ i l k. ⊎_elim (λ e. e) (λ d. absurd (not_there t (λ g. d (g.holds i l k)))) (eq_or_ne (has (set (at i)) (of i)) 1);
      comes = λ v w l h. ⊎_elim (λ f. (f.0, f.1, f.2.0, f.2.1, f.2.2)) (λ none. absurd (not_there t (λ g. let f = g.comes v w l h in none f.0 f.1 (f.2, f.3, f.4)))) (look_for _ (ask_entry at of picked v w) n);
    }
