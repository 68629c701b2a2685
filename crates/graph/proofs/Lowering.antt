-- 01, Skip numbers: the vector that starts above every skip and is lowered channel by channel, and what it is when every channel
-- is met.
use mathlib.Core.Path.{◌≡◌, refl, sym, ap, ◌∙◌, subst₂, subst⁻¹}
use mathlib.Core.Logic.{⊎_elim, ◌≢◌}
use mathlib.Core.Bool.{Bool, true, false, not, cond}
use mathlib.Core.List.{List}
use Prim.Native.Nat.{ℕ, ◌+◌, ◌*◌, ◌-◌, ◌^◌, ◌<◌, ◌≤◌, min, max, zero-le}
use native.Mathlib.Nat.{le_refl, le_trans, mul-le-mul, div-lt_iff_lt-mul, le-div_iff_mul-le, eq-zero-or-pos}
use native.Mathlib.Omega.{arith}
use lib.ListN.{length, get_or, set, length-set}
use lib.Dec.{eqb, ltb}
use borrow.Author.Tests.{eqb-true}
use Rattle.units.specs.Bounds.{engine_actors, max_tokens, max_repetition}
use Rattle.sdf.specs.Graph.{Channel, Graph, Reached}
use Rattle.sdf.specs.Skip.{allowed, Skips}
use Rattle.sdf.specs.Sum.{sum_to}
use Rattle.sdf.proofs.Numbers.{eq_or_ne}
use Rattle.sdf.proofs.Settle.{put, put_same, put_other, put_keeps, sum_lower}
use Rattle.sdf.proofs.Skip.{relax_law, settled_skips, skips_exist, skips_bounded, skip_step_fits}
use Rattle.trial.specs.Flat.{vector, Drawn}
use Rattle.trial.specs.Links.{Chain}
use Rattle.trial.proofs.Chains.{Walked, walked_start, walked_turn}
use Rattle.trial.proofs.Ends.{Ends}
use Rattle.sets.specs.Decides.{Decides}
use Rattle.sets.specs.Sets.{has, Below, Covers, Put}
use Rattle.sets.proofs.Bits.{has_none, has_small, has_bit, has_same, put_less}
use Rattle.sets.proofs.Decided.{decides_same, decides_less}
use Rattle.sets.proofs.Vectors.{vector_set}
use Rattle.repeat.specs.Repetition.{Repeats}
use Rattle.graph.specs.Skip.{max_skip, Highest, Falling, Meets, Watched, Entries, Lowered}
use Rattle.repeat.specs.declared.draw.Neighbours.{Neighbours}
use Rattle.repeat.specs.Words.{tails_of, Words, Unskipped}

-- What the first vector holds at v.
abbrev pub High : (actors zeros : ℕ) → (ℕ → ℕ) → ℕ → ℕ → Type 0
High actors zeros q v n = (has zeros v ≡ 0 → n ≡ actors * max_tokens * q v) × (has zeros v ≡ 1 → n ≡ 0)

module _ (g : Graph) (zeros : ℕ) (q : List ℕ) (s : ℕ → ℕ) (drawn : Drawn g) (repeats : Repeats g q) (h : Highest g.actors zeros (vector q) s) where
  -- The first vector is above every skip.
  pub falling_start : Reached g → Unskipped g zeros → Falling g zeros s
  falling_start reached u =
      let k = skips_exist g drawn.sound reached in
      record {
        above = λ x a v l. ⊎_elim
            (λ z. omega (arith, k.1.greatest x a v l, skips_bounded g (vector q) k.0 max_tokens drawn.sound reached repeats.repetition.balanced drawn.tokens k.1 v l, h.high v l z))
            (λ o. omega (arith, u.none v o x a))
            (has_bit zeros v);
        output = h.none g.output drawn.sound.output u.output;
        none = h.none;
        bound = λ v l. ⊎_elim (λ z. omega (arith, h.high v l z, mul-le-mul drawn.actors (repeats.bound v l))) (λ o. omega (arith, h.none v l o)) (has_bit zeros v);
      }

  -- In the first vector every channel is met but those into actors at 0, since its rates balance.
  pub watched_start : (d : ℕ) → Watched g s (has zeros) d
  unfolding allowed
  watched_start d l z =
      let e = g.channel d in
      let most = g.actors * max_tokens * vector q e.tail in
      let tail : s e.tail ≤ most = ⊎_elim (λ z. omega (arith, h.high e.tail (drawn.sound.tail d l) z)) (λ o. omega (arith, h.none e.tail (drawn.sound.tail d l) o)) (has_bit zeros e.tail) in
      let head : s e.head ≡ g.actors * max_tokens * vector q e.head = h.high e.head (drawn.sound.head d l) z in
      le_trans tail ((le-div_iff_mul-le {x = most} {y = e.tokens + s e.head * e.consume} (drawn.sound.produce d l)).1 (rw head (omega (arith, ap (λ (x : ℕ). g.actors * max_tokens * x) (repeats.repetition.balanced.equal d l)))))

-- Where all actors are at 0 the skips stand there.
pub zero_skips : {g : Graph} {zeros : ℕ} {s : ℕ → ℕ} → Drawn g → Falling g zeros s → Covers zeros g.actors → Skips g s
zero_skips {g} {s = s} drawn f all = settled_skips g s f.above record {
  output = f.output;
  channel = λ d l. let t = (g.channel d).tail in rw (f.none t (drawn.sound.tail d l) (all t (drawn.sound.tail d l))) zero-le;
}

-- A walk along the channels into h: those in the set `fell` have fallen, and the others are as they were.
pub record Lowering (g : Graph) (zeros h at fell : ℕ) (before now : List ℕ) : Type 0 where
  pub same_length : length now ≡ length before
  pub falling : Falling g zeros (vector now)
  pub actors : Below fell g.actors
  pub below : (v : ℕ) → vector now v ≤ vector before v
  pub kept : (v : ℕ) → has fell v ≡ 0 → vector now v ≡ vector before v
  pub sum : sum_to (vector now) g.actors ≤ sum_to (vector before) g.actors
  pub less : 0 < fell → sum_to (vector now) g.actors < sum_to (vector before) g.actors
  pub still : fell ≡ 0 → now ≡ before
  pub walked : Walked (λ d. (g.channel d).head) h g.channels at (λ d. (g.channel d).head ≡ h → has fell h ≡ 0 → Meets g (vector now) d)

-- Before the first of them.
pub lowering_start : {g : Graph} {zeros h at : ℕ} {s : List ℕ} → Falling g zeros (vector s) → Chain (λ d. (g.channel d).head) h g.channels at → Lowering g zeros h at 0 s s
lowering_start f chain = record {
  same_length = refl;
  falling = f;
  actors = λ v o. absurd (omega (arith, has_none v));
  below = λ v. le_refl _;
  kept = λ v z. refl;
  sum = le_refl _;
  less = λ l. absurd (omega arith);
  still = λ e. refl;
  walked = walked_start _ chain (λ d n e. absurd (n e));
}

-- An entry that falls leaves every channel met that is not into it.
meets_lower : (g : Graph) (s : ℕ → ℕ) (tail most d : ℕ) → most ≤ s tail → (g.channel d).head ≢ tail → Meets g s d → Meets g (put s tail most) d
meets_lower g s tail most d l n m =
    rw (put_other s tail most (g.channel d).head n) (le_trans (put_keeps (λ w n. n ≤ s w) s tail most l (g.channel d).tail (le_refl _)) m)

module _ {g : Graph} {n c tail head : ℕ} (ends : Ends g n c tail head) {zeros at fell : ℕ} {before now : List ℕ} (p : Lowering g zeros head at fell before now) where
  -- What the channel allows is worked out in 64 bits.
  pub lowering_fits : Drawn g → (g.channel c).tokens + get_or now head 0 * (g.channel c).consume < 2 ^ 64
  lowering_fits drawn =
      let l = ends.channel in
      let b : head < g.actors = rw (← ends.head) (ends.sound.head c l) in
      skip_step_fits (g.channel c) engine_actors max_repetition (get_or now head 0) (le_refl _) (le_refl _) (drawn.tokens c l) (drawn.consume c l) (p.falling.bound head b)

  -- And so is what the tail's skip would produce.
  pub lowering_asks : Drawn g → get_or now tail 0 * (g.channel c).produce < 2 ^ 64
  lowering_asks drawn =
      let a : tail < g.actors = rw (← ends.tail) (ends.sound.tail c ends.channel) in
      omega (arith, mul-le-mul (p.falling.bound tail a) (drawn.produce c ends.channel))

  module _ (most : ℕ) (e : most ≡ allowed (g.channel c) (get_or now head 0)) (h : allowed (g.channel c) (get_or now head 0) < get_or now tail 0) where
    falls : Falling g zeros (put (vector now) tail most)
    falls =
        let f = p.falling in
        let a : tail < g.actors = rw (← ends.tail) (ends.sound.tail c ends.channel) in
        let b : head < g.actors = rw (← ends.head) (ends.sound.head c ends.channel) in
        let l : most ≤ get_or now tail 0 = omega arith in
        record {
          above = λ x k w m. put_keeps (λ w n. x w ≤ n) (vector now) tail most (subst₂ (λ v m. x v ≤ m) ends.tail (sym e) (relax_law g x c (get_or now head 0) k ends.channel (rw ends.head (f.above x k head b)))) w (f.above x k w m);
          output = omega (arith, put_keeps (λ w n. n ≤ vector now w) (vector now) tail most l g.output (le_refl _), f.output);
          none = λ w m o. omega (arith, put_keeps (λ w n. n ≤ vector now w) (vector now) tail most l w (le_refl _), f.none w m o);
          bound = λ w m. put_keeps (λ w n. n ≤ max_skip) (vector now) tail most (le_trans l (f.bound tail a)) w (f.bound w m);
        }

    module _ {fell' : ℕ} (fallen : Put fell tail (max (has fell tail) 1) fell') where
      -- Who is not among those that have fallen is not the tail, and was not among them.
      other : (v : ℕ) → has fell' v ≡ 0 → v ≢ tail
      other v z i = omega (arith, fallen.here, ap (has fell') i)

      was : (v : ℕ) → has fell' v ≡ 0 → has fell v ≡ 0
      was v z = sym (fallen.there v (other v z)) ∙ z

      this : (g.channel c).head ≡ head → has fell' head ≡ 0 → Meets g (put (vector now) tail most) c
      this i z =
          subst₂ (λ v w. put (vector now) tail most v ≤ allowed (g.channel c) (put (vector now) tail most w)) (sym ends.tail) (sym i)
          (rw (put_same (vector now) tail most, put_other (vector now) tail most head (other head z)) (omega arith))

      -- A channel that is not met: its tail is lowered to what it allows, and has fallen.
      pub lowering_lower : {next : ℕ} → at ≡ c + 1 → Chain (λ d. (g.channel d).head) head c next → n ≤ length before → Lowering g zeros head next fell' before (set now tail most)
      lowering_lower here chain room =
          let a : tail < g.actors = rw (← ends.tail) (ends.sound.tail c ends.channel) in
          let i = vector_set now tail most (omega (arith, ends.near_below, p.same_length)) in
          let less : sum_to (vector (set now tail most)) g.actors < sum_to (vector before) g.actors =
          subst⁻¹ (λ s. sum_to s g.actors < sum_to (vector before) g.actors) i (omega (arith, p.sum, sum_lower (vector now) tail most g.actors a (omega arith))) in
          record {
            same_length = simp length-set p.same_length;
            falling = subst⁻¹ (Falling g zeros) i falls;
            actors = λ v o. ⊎_elim (λ (q : v ≡ tail). rw q a) (λ d. p.actors v (sym (fallen.there v d) ∙ o)) (eq_or_ne v tail);
            below = λ v. subst⁻¹ (λ s. s v ≤ vector before v) i (put_keeps (λ w n. n ≤ vector before w) (vector now) tail most (omega (arith, p.below tail)) v (p.below v));
            kept = λ v z. ap (λ (s : ℕ → ℕ). s v) i ∙ put_other (vector now) tail most v (other v z) ∙ p.kept v (was v z);
            sum = omega arith;
            less = λ l. less;
            still = λ z. absurd (omega (arith, fallen.here, ap (λ (x : ℕ). has x tail) z, has_none tail));
            walked = walked_turn _ p.walked here chain
                (λ d l n e. absurd (n e))
                (λ q z. subst⁻¹ (λ s. Meets g s c) i (this q z))
                (λ d l w q z. subst⁻¹ (λ s. Meets g s d) i (meets_lower g (vector now) tail most d (omega arith) (λ t. other head z (sym q ∙ t)) (w q (was head z))));
          }

-- Actors below n, among them every one with a tail outside the set at 0.
pub record Entering (neighbours : List Neighbours) (zeros n set : ℕ) : Type 0 where
  pub below : Below set n
  pub inside : (h : ℕ) → h < n → has set h ≡ 0 → (t : ℕ) → has (tails_of neighbours h) t ≡ 1 → has zeros t ≡ 1

-- None is below 0.
pub entering_start : {neighbours : List Neighbours} {zeros : ℕ} → Entering neighbours zeros 0 0
entering_start = record { below = λ v o. absurd (omega (arith, has_none v)); inside = λ h l. absurd (omega arith) }

-- One actor more.
pub entering_turn : {neighbours : List Neighbours} {zeros n set new : ℕ} (left : ℕ) → Entering neighbours zeros n set → ((t : ℕ) → has left t ≡ has (tails_of neighbours n) t - has zeros t)
    → Put set n (max (has set n) (cond (not (eqb left 0)) 1 0)) new → Entering neighbours zeros (n + 1) new
entering_turn {neighbours} {zeros} {n} {set} {new} left p minus put = record {
  below = λ v o. ⊎_elim (λ e. omega arith) (λ d. omega (arith, p.below v (sym (put.there v d) ∙ o))) (eq_or_ne v n);
  inside = λ h l z t o. ⊎_elim
      (λ (e : h ≡ n). empty (eqb left 0) refl (omega (arith, ap (has new) e, put.here)) t (rw e at o))
      (λ d. p.inside h (omega arith) (sym (put.there h d) ∙ z) t o)
      (eq_or_ne h n);
}
  where
    empty : (b : Bool) → eqb left 0 ≡ b → cond (not (eqb left 0)) 1 0 < 1 → (t : ℕ) → has (tails_of neighbours n) t ≡ 1 → has zeros t ≡ 1
    empty true e z t o = omega (arith, minus t, ap (λ (x : ℕ). has x t) (eqb-true left 0 e), has_none t, has_small zeros t)
    empty false e z t o = absurd (omega (arith, ap {B = ℕ} (λ (b : Bool). cond (not b) 1 0) e))

-- All are looked at: those found that are in the set at 0.
pub entering_end : {g : Graph} {neighbours : List Neighbours} {zeros n set r : ℕ} → Drawn g → Words g neighbours → n ≤ g.actors → g.actors ≤ n → Entering neighbours zeros n set
    → ((v : ℕ) → has r v ≡ min (has set v) (has zeros v)) → Entries g zeros r
entering_end {g} {neighbours} {zeros} {n} {set} {r} drawn drawing most all p common = record {
  actors = λ v o. omega (arith, p.below v (omega (arith, common v, has_small set v, has_small zeros v)));
  inside = λ d l o z. let h = (g.channel d).head in
      p.inside h (omega (arith, drawn.sound.head d l)) (omega (arith, common h)) (g.channel d).tail (drawing.tails.holds d l refl);
}

-- The test without a division.
pub lowers_says : (e : Channel) (skip from most asked : ℕ) → 0 < e.produce → most ≡ e.tokens + skip * e.consume → asked ≡ from * e.produce → Decides (ltb most asked) (allowed e skip < from)
unfolding allowed
lowers_says e skip from most asked p i j =
    let same = div-lt_iff_lt-mul {k = e.produce} {x = e.tokens + skip * e.consume} {y = from} p in
    decides_same (ltb most asked) (λ h. same.1 (omega arith)) (λ h. omega (arith, same.0 h)) (decides_less most asked)

-- Actors of `todo` have fallen since the channels into them were last looked at; every other channel is met.
pub record Settling (g : Graph) (zeros todo : ℕ) (s : List ℕ) : Type 0 where
  pub falling : Falling g zeros (vector s)
  pub watched : (d : ℕ) → Watched g (vector s) (has todo) d
  pub actors : Below todo g.actors

-- In the first vector a channel into the set at 0 is met too where its tail is in the set.
pub settling_start : {g : Graph} {zeros r : ℕ} {s : List ℕ} → Drawn g → Falling g zeros (vector s) → ((d : ℕ) → Watched g (vector s) (has zeros) d) → Entries g zeros r → Settling g zeros r s
settling_start {g} {zeros} {r} {s} drawn f w e = record {
  falling = f;
  watched = λ d l z. ⊎_elim
      (λ n. w d l n)
      (λ o. let t = (g.channel d).tail in rw (f.none t (drawn.sound.tail d l) (e.inside d l o z)) zero-le)
      (has_bit zeros (g.channel d).head);
  actors = e.actors;
}

-- The channels into one of them are looked at.
pub record Looks (g : Graph) (zeros h todo less fell todo' : ℕ) (before after : List ℕ) : Type 0 where
  pub one : has todo h ≡ 1
  pub off : Put todo h 0 less
  pub lowered : Lowered g zeros h fell before after
  pub rest : (v : ℕ) → has todo' v ≡ max (has less v) (has fell v)

module _ {g : Graph} {zeros h todo less fell todo' : ℕ} {before after : List ℕ} (p : Settling g zeros todo before) (a : Looks g zeros h todo less fell todo' before after) where
  -- Those that fell are to be looked at.
  pub settling_turn : Settling g zeros todo' after
  settling_turn = record {
    falling = a.lowered.falling;
    watched = λ d l z. a.lowered.watched (has less) (λ d n l z. p.watched d l (sym (a.off.there (g.channel d).head n) ∙ z)) d l (sym (a.rest (g.channel d).head) ∙ z);
    actors = λ v o. ⊎_elim
        (λ z. ⊎_elim
        (λ (e : v ≡ h). absurd (omega (arith, a.rest v, ap (has less) e, a.off.here)))
        (λ n. p.actors v (omega (arith, a.rest v, a.off.there v n)))
        (eq_or_ne v h))
        (λ o. a.lowered.actors v o)
        (has_bit fell v);
  }

  -- An entry fell, or there are fewer to be looked at.
  pub settling_less : todo' < 2 ^ 64 → sum_to (vector after) g.actors * 2 ^ 64 + todo' < sum_to (vector before) g.actors * 2 ^ 64 + todo
  settling_less l =
      ⊎_elim
      (λ z.
      let same : todo' ≡ less = has_same (λ v. omega (arith, a.rest v, ap (λ (x : ℕ). has x v) z, has_none v)) in
      let sums : sum_to (vector after) g.actors ≡ sum_to (vector before) g.actors = ap (λ (s : List ℕ). sum_to (vector s) g.actors) (a.lowered.still z) in
      omega (arith, put_less a.off a.one))
      (λ k. omega (arith, a.lowered.less k))
      (eq-zero-or-pos fell)

-- Nobody is left to be looked at: the skips stand there.
pub settling_end : {g : Graph} {zeros todo : ℕ} {s : List ℕ} → Settling g zeros todo s → todo ≡ 0 → Skips g (vector s)
settling_end {g} {s = s} p z = settled_skips g (vector s) p.falling.above record {
  output = p.falling.output;
  channel = λ d l. p.watched d l (ap (λ (x : ℕ). has x (g.channel d).head) z ∙ has_none (g.channel d).head);
}
