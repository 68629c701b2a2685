-- How the set of all that are met grows.
use mathlib.Core.Path.{◌≡◌, refl, sym, ap, ◌∙◌, subst}
use mathlib.Core.Logic.{⊎_elim}
use mathlib.Core.List.{List, [], ◌∷◌, ◌++◌}
use Prim.Native.Nat.{ℕ, suc, ◌+◌, ◌-◌, ◌*◌, ◌^◌, ◌≤◌, ◌<◌, max}
use native.Mathlib.Nat.{mul-le-mul_right, suc-mul, add-lt-add_of_le_of_lt, le_refl}
use native.Mathlib.Omega.{arith}
use Rattle.sdf.proofs.Numbers.{lt_or_ge, eq_or_ne}
use Rattle.sets.specs.Sets.{has, Below, Put, Trail, Met, Spread, Tells}
use Rattle.sets.proofs.Bits.{has_none, has_small, has_bit, has_same, has_le, put_less}

-- A trail leads one actor further.
pub trail_more : (set : ℕ → ℕ) (v : ℕ) (trail : List ℕ) (w u : ℕ) → Trail set v trail w → has (set w) u ≡ 1 → Trail set v (trail ++ (u ∷ [])) u
unfolding Trail
trail_more set v [] w u t h = (subst (λ (x : ℕ). has (set x) u ≡ 1) (sym t) h, refl)
trail_more set v (x ∷ trail) w u t h = (t.0, trail_more set x trail w u t.1 h)

-- Whom somebody met leads to is met.
pub met_more : (set : ℕ → ℕ) (start w u : ℕ) → Met set start w → has (set w) u ≡ 1 → Met set start u
met_more set start w u m h = (m.0, m.1, m.2 ++ (u ∷ []), trail_more set m.0 m.2 w u m.3 h)

-- Who is in the start is met.
pub met_start : (set : ℕ → ℕ) (start w : ℕ) → has start w ≡ 1 → Met set start w
unfolding Trail
met_start set start w h = (w, h, [], refl)

-- All of `met` are met; those of `todo` are yet to be asked whom they lead to.
pub record Spreading (set : ℕ → ℕ) (start met todo : ℕ) : Type 0 where
  pub starts : (v : ℕ) → has start v ≡ 1 → has met v ≡ 1
  pub asked : (v w : ℕ) → has met v ≡ 1 → has todo v ≡ 0 → has (set v) w ≡ 1 → has met w ≡ 1
  pub sound : (w : ℕ) → has met w ≡ 1 → Met set start w

-- The same for every choice of sets that is told; those to be asked are met, and all are below n.
pub record Asking (told : ℕ → ℕ → Type 0) (start n met todo : ℕ) : Type 0 where
  pub waits : (v : ℕ) → has todo v ≡ 1 → has met v ≡ 1
  pub below : Below met n
  pub spreads : (set : ℕ → ℕ) → Tells told n set → Spreading set start met todo

-- Before anybody is asked.
pub asking_start : (told : ℕ → ℕ → Type 0) (start n : ℕ) → Below start n → Asking told start n start start
asking_start told start n b =
    record {
      waits = λ v h. h;
      below = b;
      spreads = λ set t. record { starts = λ v h. h; asked = λ v w h z. absurd (omega arith); sound = λ w h. met_start set start w h };
    }

-- One of those to be asked is asked, and leads to those of `fresh` who were not met.
pub record Asks (v out met todo less fresh met' todo' : ℕ) : Type 0 where
  pub one : has todo v ≡ 1
  pub off : Put todo v 0 less
  pub news : (w : ℕ) → has fresh w ≡ has out w - has met w
  pub rest : (w : ℕ) → has todo' w ≡ max (has less w) (has fresh w)
  pub all : (w : ℕ) → has met' w ≡ max (has met w) (has fresh w)

-- Those met and those yet to be asked, once one is asked and is told `out`.
pub asking_turn : {told : ℕ → ℕ → Type 0} {start n v out met todo less fresh met' todo' : ℕ} → Asking told start n met todo → Below out n → told v out → Asks v out met todo less fresh met' todo'
    → Asking told start n met' todo'
asking_turn {told} {start} {n} {v} {out} {met} {todo} {less} {fresh} {met'} {todo'} s b o a =
    record {
      waits = λ w h. ⊎_elim
          (λ z. ⊎_elim
          (λ (e : w ≡ v). absurd (omega (arith, ap (has less) e, a.off.here, a.rest w)))
          (λ d. kept w (s.waits w (omega (arith, a.off.there w d, a.rest w))))
          (eq_or_ne w v))
          (λ o. omega (arith, a.all w, has_small met w))
          (has_bit fresh w);
      below = λ w h. ⊎_elim (λ z. b w (leads w h z)) (λ o. s.below w o) (has_bit met w);
      spreads = λ set t. turn set (t v out (s.below v (s.waits v a.one)) o) (s.spreads set t);
    }
  where
    kept : (w : ℕ) → has met w ≡ 1 → has met' w ≡ 1
    kept w h = omega (arith, a.all w, a.news w, has_small out w)

    leads : (w : ℕ) → has met' w ≡ 1 → has met w ≡ 0 → has out w ≡ 1
    leads w h z = omega (arith, a.all w, a.news w)

    turn : (set : ℕ → ℕ) → out ≡ set v → Spreading set start met todo → Spreading set start met' todo'
    turn set e p = record {
      starts = λ w h. kept w (p.starts w h);
      asked = λ u w h z l. ⊎_elim
          (λ (q : u ≡ v). let k : has out w ≡ 1 = rw (q, ← e) at l in omega (arith, a.news w, a.all w, has_small met w))
          (λ d. kept w (p.asked u w (omega (arith, a.all u, a.rest u)) (omega (arith, a.off.there u d, a.rest u)) l))
          (eq_or_ne u v);
      sound = λ w h. ⊎_elim
          (λ z. met_more set start v w (p.sound v (s.waits v a.one)) (rw e at (leads w h z)))
          (λ o. p.sound w o)
          (has_bit met w);
    }

-- A pair that falls, counted by its first part and then by its second.
falls : (b m m' t t' : ℕ) → m < m' → m' < b → t' < b → (b - m') * b + t' < (b - m) * b + t
falls b m m' t t' l lm lt =
    let less : suc (b - m') ≤ b - m = omega arith in
    omega (arith, mul-le-mul_right b less, suc-mul (b - m') b)

-- Either somebody new is met, or fewer are yet to be asked.
pub asking_less : {v out met todo less fresh met' todo' : ℕ} → Asks v out met todo less fresh met' todo' → met' < 2 ^ 64 → todo' < 2 ^ 64 → (2 ^ 64 - met') * 2 ^ 64 + todo' < (2 ^ 64 - met) * 2 ^ 64 + todo
asking_less {v} {out} {met} {todo} {less} {fresh} {met'} {todo'} a lm lt =
    let grows : met ≤ met' = has_le (λ w. omega (arith, a.all w)) in ⊎_elim
    (λ l. falls (2 ^ 64) met met' todo todo' l lm lt)
    (λ g.
    let same : met' ≡ met = omega arith in
    let shrinks : todo' ≡ less = has_same (λ w. omega (arith, a.rest w, a.all w, a.news w, ap (λ (x : ℕ). has x w) same, has_small out w)) in
    subst (λ (x : ℕ). (2 ^ 64 - x) * 2 ^ 64 + todo' < (2 ^ 64 - met) * 2 ^ 64 + todo) (sym same)
    (add-lt-add_of_le_of_lt (le_refl ((2 ^ 64 - met) * 2 ^ 64)) (subst (λ (x : ℕ). x < todo) (sym shrinks) (put_less a.off a.one))))
    (lt_or_ge met met')

-- Nobody is left to be asked.
pub asking_end : {told : ℕ → ℕ → Type 0} {start n met todo : ℕ} → Asking told start n met todo → todo ≡ 0 → (set : ℕ → ℕ) → Tells told n set → Spread set start met
asking_end s e set t = let p = s.spreads set t in
    record { starts = p.starts; closed = λ v w h l. p.asked v w h (ap (λ (x : ℕ). has x v) e ∙ has_none v) l; sound = p.sound }
