-- Who reaches whom, by the neighbours: what is met along them from a set is what the channels lead to.
use mathlib.Core.Path.{◌≡◌, refl, sym, ap, ◌∙◌, subst}
use mathlib.Core.Bool.{Bool, true, false}
use mathlib.Core.Logic.{⊎_elim, ◌↔◌}
use mathlib.Core.List.{List, [], ◌∷◌}
use Prim.Native.Nat.{ℕ, ◌+◌, ◌*◌, ◌<◌, ◌≤◌, max}
use native.Mathlib.Nat.{div-eq_of_lt}
use native.Mathlib.Omega.{arith}
use borrow.Author.Tests.{ltb-true, ltb-false}
use Rattle.sdf.specs.Graph.{Graph, Along, Reaches, Reached}
use Rattle.sdf.specs.Order.{initial, Enabled, AtRest}
use Rattle.sdf.specs.Skip.{allowed, Skippable}
use Rattle.sdf.proofs.Numbers.{eq_or_ne}
use Rattle.sdf.proofs.Reach.{reach_closed, reach_step, reach_back}
use Rattle.sets.specs.Decides.{Decides}
use Rattle.sets.specs.Sets.{has, Covers, Below, Put, Gathers, Trail, Spread}
use Rattle.sets.proofs.Bits.{has_none, has_small, has_bit}
use Rattle.sets.proofs.Gather.{gather_below}
use Rattle.sets.proofs.Decided.{decides_same}
use Rattle.trial.specs.Flat.{Drawn}
use Rattle.repeat.specs.declared.draw.Neighbours.{Neighbours}
use Rattle.repeat.specs.Words.{heads_of, tails_of, tied_of, tied, keeps, Words, KeptBack, AllFrom, AllTo, Unskipped}

-- What holds at v, and of each that is led to where it holds of the one before, holds at the end of a trail from v.
pub trail_keeps : (set : ℕ → ℕ) (P : ℕ → Type 0) → ((v w : ℕ) → P v → has (set v) w ≡ 1 → P w) → (v : ℕ) (trail : List ℕ) (w : ℕ) → P v → Trail set v trail w → P w
unfolding Trail
trail_keeps set P step v [] w p t = subst P t p
trail_keeps set P step v (u ∷ trail) w p t = trail_keeps set P step u trail w (step v u p t.0) t.1

-- What holds of those in the start, and of each that is led to where it holds of the one before, holds of all that are met.
pub spread_keeps : {set : ℕ → ℕ} {start met : ℕ} (P : ℕ → Type 0) → Spread set start met → ((v : ℕ) → has start v ≡ 1 → P v) → ((v w : ℕ) → P v → has (set v) w ≡ 1 → P w) → (w : ℕ) → has met w ≡ 1 → P w
spread_keeps {set} P s starts step w h = let m = s.sound w h in trail_keeps set P step m.0 m.2 w (starts m.0 m.1) m.3

-- Of a set with one actor alone: who is in it is that one.
pub only_one : {v set : ℕ} → Put 0 v 1 set → (w : ℕ) → has set w ≡ 1 → w ≡ v
only_one {v} {set} p w h = ⊎_elim (λ e. e) (λ d. absurd (omega (arith, p.there w d, has_none w))) (eq_or_ne w v)

-- A set with one actor alone has nobody past n, where that one is below n.
pub only_below : {v set : ℕ} (n : ℕ) → Put 0 v 1 set → v < n → Below set n
only_below n p l w h = omega (arith, only_one p w h)

-- Every actor reaches itself.
pub reach_self : (g : Graph) (v : ℕ) → Reaches g v v
unfolding Along
reach_self g v = ([], refl)

-- The tail of a tied channel cannot skip where its head does not.
pub tied_none : (g : Graph) (x : ℕ → ℕ) (c : ℕ) → c < g.channels → tied g c ≡ true → Skippable g x → x (g.channel c).head ≡ 0 → x (g.channel c).tail ≡ 0
unfolding allowed
tied_none g x c l t s z =
    let e = g.channel c in
    let less : e.tokens + x e.head * e.consume < e.produce = rw z (omega (arith, ltb-true e.tokens e.produce t)) in
    omega (arith, s.channel c l, div-eq_of_lt less)

-- What is told of an actor is gathered from channels between actors, so it has actors alone.
pub told_below : (g : Graph) {at of : ℕ → ℕ} {picked : ℕ → Bool} {sets : ℕ → ℕ} → Gathers g.actors g.channels at of picked sets → ((c : ℕ) → c < g.channels → of c < g.actors) → (v set : ℕ) → v < g.actors
    → set ≡ sets v → Below set g.actors
told_below g gathers ends v set l e = rw e (gather_below g.actors gathers ends v l)

module _ {g : Graph} {neighbours : List Neighbours} (drawn : Drawn g) (w : Words g neighbours) where
  -- The input reaches all that are met from it along the channels.
  met_from : {start met : ℕ} → Put 0 g.input 1 start → Spread (heads_of neighbours) start met → (v : ℕ) → has met v ≡ 1 → (v < g.actors) × Reaches g g.input v
  met_from p s =
      spread_keeps (λ v. (v < g.actors) × Reaches g g.input v) s
      (λ v h. rw (only_one p v h) (drawn.sound.input, reach_self g g.input))
      (λ v u q h. forth v u (w.heads.comes v u q.0 h) q.1)
    where
      forth : (v u : ℕ) → (c : ℕ) × (c < g.channels) × ((g.channel c).tail ≡ v) × ((g.channel c).head ≡ u) × (true ≡ true) → Reaches g g.input v → (u < g.actors) × Reaches g g.input u
      forth v u j r =
          let r' : Reaches g g.input (g.channel j.0).tail = subst (λ (x : ℕ). Reaches g g.input x) (sym j.2) r in
          subst (λ (x : ℕ). (x < g.actors) × Reaches g g.input x) j.3 (drawn.sound.head j.0 j.1, reach_step g g.input j.0 r' j.1)

  -- All that the input reaches are met from it along the channels.
  from_met : {start met : ℕ} → Put 0 g.input 1 start → Spread (heads_of neighbours) start met → (v : ℕ) → Reaches g g.input v → has met v ≡ 1
  from_met {start} {met} p s v r =
      reach_closed g (λ v. has met v ≡ 1) g.input v (s.starts g.input p.here) (λ c l h. s.closed (g.channel c).tail (g.channel c).head h (w.heads.holds c l refl)) r

  -- All are met along the channels from the input, exactly if it reaches them.
  pub from_decides : {start met : ℕ} (r : Bool) → Put 0 g.input 1 start → Spread (heads_of neighbours) start met → Decides r (Covers met g.actors) → Decides r (AllFrom g g.input)
  from_decides r p s d = decides_same r (λ c v l. (met_from p s v (c v l)).1) (λ a v l. from_met p s v (a v l)) d

  -- All that are met from a set against the channels reach the output, where those in the set do.
  met_to : {start met : ℕ} → Unskipped g start → Spread (tails_of neighbours) start met → (v : ℕ) → has met v ≡ 1 → (v < g.actors) × Reaches g v g.output
  met_to z s =
      spread_keeps (λ v. (v < g.actors) × Reaches g v g.output) s
      (λ v h. (z.actors v h, z.reach v h))
      (λ v u q h. back v u (w.tails.comes v u q.0 h) q.1)
    where
      back : (v u : ℕ) → (c : ℕ) × (c < g.channels) × ((g.channel c).head ≡ v) × ((g.channel c).tail ≡ u) × (true ≡ true) → Reaches g v g.output → (u < g.actors) × Reaches g u g.output
      back v u j r =
          let r' : Reaches g (g.channel j.0).head g.output = subst (λ (x : ℕ). Reaches g x g.output) (sym j.2) r in
          subst (λ (x : ℕ). (x < g.actors) × Reaches g x g.output) j.3 (drawn.sound.tail j.0 j.1, reach_back g j.0 g.output j.1 r')

  -- All that reach the output are met from a set that has it.
  to_met : {start met : ℕ} → Unskipped g start → Spread (tails_of neighbours) start met → (v : ℕ) → Reaches g v g.output → has met v ≡ 1
  to_met {start} {met} z s v r = ⊎_elim
      (λ n. absurd (omega (arith, s.starts g.output z.output, reach_closed g (λ v. has met v ≡ 0) v g.output n out r)))
      (λ h. h)
      (has_bit met v)
    where
      out : (c : ℕ) → c < g.channels → has met (g.channel c).tail ≡ 0 → has met (g.channel c).head ≡ 0
      out c l n = ⊎_elim
          (λ z. z)
          (λ h. absurd (omega (arith, s.closed (g.channel c).head (g.channel c).tail h (w.tails.holds c l refl))))
          (has_bit met (g.channel c).head)

  -- All are met against the channels from a set that has the output and whose actors reach it, exactly if all reach it.
  pub to_decides : {start met : ℕ} (r : Bool) → Unskipped g start → Spread (tails_of neighbours) start met → Decides r (Covers met g.actors) → Decides r (AllTo g g.output)
  to_decides r z s d = decides_same r (λ c v l. (met_to z s v (c v l)).1) (λ a v l. to_met z s v (a v l)) d

  -- What is said of each actor that cannot skip.
  abbrev Zero : ℕ → Type 0
  Zero v = (v < g.actors) × Reaches g v g.output × ((x : ℕ → ℕ) → Skippable g x → x v ≡ 0)

  -- All that are met from the output against the tied channels cannot skip, and reach the output.
  met_unskipped : {start met : ℕ} → Put 0 g.output 1 start → Spread (tied_of neighbours) start met → (v : ℕ) → has met v ≡ 1 → Zero v
  met_unskipped p s =
      spread_keeps Zero s
      (λ v h. rw (only_one p v h) (drawn.sound.output, reach_self g g.output, λ x k. k.output))
      (λ v u q h. back v u (w.tied.comes v u q.0 h) q)
    where
      back : (v u : ℕ) → (c : ℕ) × (c < g.channels) × ((g.channel c).head ≡ v) × ((g.channel c).tail ≡ u) × (tied g c ≡ true) → Zero v → Zero u
      back v u j q =
          let q' : Zero (g.channel j.0).head = subst Zero (sym j.2) q in
          subst Zero j.3 (drawn.sound.tail j.0 j.1, reach_back g j.0 g.output j.1 q'.1, λ x k. tied_none g x j.0 j.1 j.4 k (q'.2 x k))

  -- The set of all that are met from the output against the tied channels.
  pub unskipped_met : {start met : ℕ} → Put 0 g.output 1 start → Spread (tied_of neighbours) start met → Unskipped g met
  unskipped_met p s =
      record {
        output = s.starts g.output p.here;
        actors = λ v h. (met_unskipped p s v h).0;
        reach = λ v h. (met_unskipped p s v h).1;
        none = λ v h. (met_unskipped p s v h).2;
      }

-- Every actor is reached and reaches, exactly if the input reaches every actor and every actor reaches the output.
pub reached_both : (g : Graph) → Reached g ↔ (AllFrom g g.input × AllTo g g.output)
reached_both g = (λ r. (λ v l. (r v l).0, λ v l. (r v l).1), λ b v l. (b.0 v l, b.1 v l))

-- All but the input are kept from firing in the initial tokens, exactly if the graph is at rest.
pub rest_decides : (g : Graph) (back all : ℕ) (r : Bool) → KeptBack g back → Put back g.input (max (has back g.input) 1) all → Decides r (Covers all g.actors) → Decides r (AtRest g)
rest_decides g back all r k p d = decides_same r rests covers d
  where
    rests : Covers all g.actors → AtRest g
    rests c v l n on =
        let j = k.comes 0 v (omega arith) (sym (p.there v n) ∙ c v l) in
        let held : (g.channel j.0).tokens < (g.channel j.0).consume = ltb-true (g.channel j.0).tokens (g.channel j.0).consume j.4 in
        omega (arith, on j.0 j.1 j.3)

    enabled : (v : ℕ) → has back v ≡ 0 → Enabled g (initial g) v
    enabled v z c l e = go (keeps g c) refl
      where
        go : (b : Bool) → keeps g c ≡ b → (g.channel c).consume ≤ (g.channel c).tokens
        go true q = absurd (omega (arith, k.holds c l q, ap (has back) e))
        go false q = ltb-false (g.channel c).tokens (g.channel c).consume q

    covers : AtRest g → Covers all g.actors
    covers rest v l = ⊎_elim
        (λ (e : v ≡ g.input). omega (arith, ap (has all) e, p.here, has_small back g.input))
        (λ n. p.there v n ∙ ⊎_elim (λ z. absurd (rest v l n (enabled v z))) (λ h. h) (has_bit back v))
        (eq_or_ne v g.input)
