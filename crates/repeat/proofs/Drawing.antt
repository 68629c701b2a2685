-- The neighbours and pairs that one pass over the channels fills in, channel by channel.
use mathlib.Core.Path.{◌≡◌, refl, sym, ap, ◌∙◌, subst}
use mathlib.Core.Bool.{Bool, true, cond}
use mathlib.Core.Logic.{◌⊎◌, inl, inr, ⊎_elim, ◌≢◌, ∥∥₁_map, ∥∥₁_elim}
use mathlib.Core.List.{List, ◌++◌}
use Prim.Native.Nat.{ℕ, ◌+◌, ◌*◌, ◌/◌, ◌<◌, ◌≤◌, max}
use native.Mathlib.Nat.{mul-le-mul_left, add-mul-div_left, div-eq_of_lt, add_comm}
use native.Mathlib.Omega.{arith}
use lib.Dec.{ltb}
use lib.ListN.{length, get_or, get_or-append, set, length-set, replicate}
use lib.Seq.{get_or-set_same, get_or-set_other}
use Rattle.std.specs.Coded.{le_prop}
use Rattle.std.specs.Ordering.{is_lt, nat_cmp}
use Rattle.std.proofs.lemmas.List.{length-append, length-replicate, get_or-replicate}
use Rattle.sdf.specs.Graph.{Channel, Graph}
use Rattle.sdf.proofs.Numbers.{eq_or_ne}
use Rattle.sets.specs.Sets.{has, Put, Gathers}
use Rattle.sets.proofs.Bits.{has_none}
use Rattle.sets.proofs.Decided.{ordered_less}
use Rattle.sets.proofs.Gather.{put_comes, gather_start, gather_next, gather_same, gather_single, gathers_of}
use Rattle.trial.specs.Flat.{Drawn}
use Rattle.trial.specs.Read.{Read}
use Rattle.repeat.specs.declared.draw.Neighbours.{Neighbours}
use Rattle.repeat.specs.Words.{nobody, heads_of, tails_of, tied_of, tied, keeps, Words}

-- Channel c is one of the first n and leads from t to h.
abbrev pub Before : Graph → ℕ → ℕ → ℕ → ℕ → Type 0
Before g n c t h = (c < n) × ((g.channel c).tail ≡ t) × ((g.channel c).head ≡ h)

-- What the first n channels have filled in.
pub record Drawing (g : Graph) (n back : ℕ) (neighbours : List Neighbours) (between : List ℕ) : Type 0 where
  pub room : g.actors ≤ length neighbours
  pub heads : Gathers g.actors n (λ c. (g.channel c).tail) (λ c. (g.channel c).head) (λ _. true) (heads_of neighbours)
  pub tails : Gathers g.actors n (λ c. (g.channel c).head) (λ c. (g.channel c).tail) (λ _. true) (tails_of neighbours)
  pub tied : Gathers g.actors n (λ c. (g.channel c).head) (λ c. (g.channel c).tail) (tied g) (tied_of neighbours)
  pub kept : Gathers 1 n (λ _. 0) (λ c. (g.channel c).head) (keeps g) (λ _. back)
  pub joins : (t h : ℕ) → t < g.actors → h < g.actors → has (heads_of neighbours t) h ≡ 1 → Before g n (get_or between (g.actors * t + h) 0) t h

-- The tail of channel e with its head too, and then the head with its tail too, where so many tails are put in.
abbrev pub tail_put : Channel → List Neighbours → ℕ → List Neighbours
tail_put e neighbours heads = set neighbours e.tail record { heads = heads; tails = tails_of neighbours e.tail; tied = tied_of neighbours e.tail }

abbrev pub head_put : Channel → List Neighbours → ℕ → ℕ → List Neighbours
head_put e neighbours tails tied = set neighbours e.head record { heads = heads_of neighbours e.head; tails = tails; tied = tied }

-- What one channel e, channel n, does to them.
pub record Draws (g : Graph) (n : ℕ) (e : Channel) (back back' : ℕ) (neighbours : List Neighbours) (heads tails tied : ℕ) (between between' : List ℕ) : Type 0 where
  pub head : Put (heads_of neighbours e.tail) e.head (max (has (heads_of neighbours e.tail) e.head) 1) heads
  pub tail : let one = tail_put e neighbours heads in Put (tails_of one e.head) e.tail (max (has (tails_of one e.head) e.tail) 1) tails
  pub ties : let one = tail_put e neighbours heads in Put (tied_of one e.head) e.tail (max (has (tied_of one e.head) e.tail) (cond (ltb e.tokens e.produce) 1 0)) tied
  pub kept : Put back e.head (max (has back e.head) (cond (ltb e.tokens e.consume) 1 0)) back'
  pub noted : between' ≡ set between (g.actors * e.tail + e.head) n

-- What is put by a comparison of two counts is put by one of their numbers.
pub put_by : {r : Bool} {set v new : ℕ} (x y : ℕ) → r ≡ is_lt (nat_cmp x y) → Put set v (max (has set v) (cond r 1 0)) new → Put set v (max (has set v) (cond (ltb x y) 1 0)) new
put_by {set = set} {v} {new} x y e m = subst (λ (f : Bool). Put set v (max (has set v) (cond f 1 0)) new) (e ∙ ordered_less x y) m

-- Two pairs with the same place are the same pair.
pub place_one : (n t h t' h' : ℕ) → h < n → h' < n → n * t + h ≡ n * t' + h' → (t ≡ t') × (h ≡ h')
place_one n t h t' h' l l' e =
    let p : 0 < n = omega arith in
    let q : (x y : ℕ) → y < n → (n * x + y) / n ≡ x = λ x y b. ap (λ (z : ℕ). z / n) (add_comm (n * x) y) ∙ add-mul-div_left y x p ∙ omega (arith, div-eq_of_lt b) in
    let first : t ≡ t' = sym (q t h l) ∙ ap (λ (z : ℕ). z / n) e ∙ q t' h' l' in
    (first, omega (arith, ap (λ (x : ℕ). n * x) first))

-- The place of a pair of two below n is below n × n.
pub place_below : (n t h : ℕ) → t < n → h < n → n * t + h < n * n
place_below n t h l b = let m : t + 1 ≤ n = omega arith in omega (arith, mul-le-mul_left n m)

-- Before the first channel: every actor is without neighbours.
pub drawing_start : (g : Graph) (cleared rest : List Neighbours) (between : List ℕ) → cleared ≡ replicate g.actors nobody → Drawing g 0 0 (cleared ++ rest) between
drawing_start g cleared rest between e =
    record {
      room = omega (arith, length-append cleared rest, long);
      heads = gather_start _ _ _ _ _ (λ v l. ap (λ (x : Neighbours). x.heads) (none v l));
      tails = gather_start _ _ _ _ _ (λ v l. ap (λ (x : Neighbours). x.tails) (none v l));
      tied = gather_start _ _ _ _ _ (λ v l. ap (λ (x : Neighbours). x.tied) (none v l));
      kept = gather_start _ _ _ _ _ (λ v l. refl);
      joins = λ t h l b k. absurd (omega (arith, k, ap (λ (x : Neighbours). has x.heads h) (none t l), has_none h));
    }
  where
    long : length cleared ≡ g.actors
    long = ap length e ∙ length-replicate g.actors nobody

    none : (v : ℕ) → v < g.actors → get_or (cleared ++ rest) v nobody ≡ nobody
    none v l = get_or-append cleared rest nobody v (omega (arith, long)) ∙ ap (λ (x : List Neighbours). get_or x v nobody) e ∙ get_or-replicate g.actors v nobody nobody l

-- A store at place a, within the list: what a field holds there, and elsewhere.
module _ (field : Neighbours → ℕ) (before : List Neighbours) (a : ℕ) (new : Neighbours) where
  store_here : a < length before → field (get_or (set before a new) a nobody) ≡ field new
  store_here l = ap field (get_or-set_same before a new nobody l)

  store_there : (v : ℕ) → v ≢ a → field (get_or (set before a new) v nobody) ≡ field (get_or before v nobody)
  store_there v d = ap field (get_or-set_other before a v new nobody d)

  -- A field that is stored as it was.
  store_still : a < length before → field new ≡ field (get_or before a nobody) → (v : ℕ) → field (get_or (set before a new) v nobody) ≡ field (get_or before v nobody)
  store_still l e v = ⊎_elim
      (λ (q : v ≡ a). rw q (store_here l ∙ e))
      (λ d. store_there v d)
      (eq_or_ne v a)

-- One entry more, gathered in a field.
gather_field : {room n : ℕ} {at of : ℕ → ℕ} {picked : ℕ → Bool} (field : Neighbours → ℕ) (before : List Neighbours) (new : Neighbours) → at n < length before
    → Gathers room n at of picked (λ v. field (get_or before v nobody))
    → Put (field (get_or before (at n) nobody)) (of n) (max (has (field (get_or before (at n) nobody)) (of n)) (cond (picked n) 1 0)) (field new)
    → Gathers room (n + 1) at of picked (λ v. field (get_or (set before (at n) new) v nobody))
gather_field {n = n} {at = at} field before new l g p =
    gather_next g (rw (store_here field before (at n) new l) p) (store_there field before (at n) new)

-- What is gathered in a field that is stored as it was.
gather_still : {room n : ℕ} {at of : ℕ → ℕ} {picked : ℕ → Bool} (field : Neighbours → ℕ) (before : List Neighbours) (a : ℕ) (new : Neighbours) → a < length before
    → field new ≡ field (get_or before a nobody) → Gathers room n at of picked (λ v. field (get_or before v nobody)) → Gathers room n at of picked (λ v. field (get_or (set before a new) v nobody))
gather_still field before a new l e g = gather_same g (store_still field before a new l e)

-- A channel more, as the graph has it.
draws : {g : Graph} {n back back' : ℕ} {neighbours : List Neighbours} {heads tails tied : ℕ} {between between' : List ℕ} → Drawn g → n < g.channels → g.actors * g.actors ≤ length between
    → Drawing g n back neighbours between → Draws g n (g.channel n) back back' neighbours heads tails tied between between'
    → Drawing g (n + 1) back' (head_put (g.channel n) (tail_put (g.channel n) neighbours heads) tails tied) between'
draws {g} {n} {back} {back'} {neighbours} {heads} {tails} {tied} {between} {between'} drawn l room d s =
    record {
      room = omega (arith, d.room, length-set one head at-head, length-set neighbours tail at-tail);
      heads = gather_still (λ (x : Neighbours). x.heads) one head at-head in-one refl (gather_field (λ (x : Neighbours). x.heads) neighbours at-tail in-list d.heads s.head);
      tails = gather_field (λ (x : Neighbours). x.tails) one at-head in-one (gather_still (λ (x : Neighbours). x.tails) neighbours tail at-tail in-list refl d.tails) s.tail;
      tied = gather_field (λ (x : Neighbours). x.tied) one at-head in-one (gather_still (λ (x : Neighbours). x.tied) neighbours tail at-tail in-list refl d.tied) s.ties;
      kept = gather_single d.kept s.kept;
      joins = λ t h lt lh k. joined t h lt lh (comes t h (ap (λ (x : ℕ). has x h) (sym (store_still (λ (x : Neighbours). x.heads) one head at-head in-one refl t)) ∙ k));
    }
  where
    tail : ℕ
    tail = (g.channel n).tail

    head : ℕ
    head = (g.channel n).head

    one : List Neighbours
    one = tail_put (g.channel n) neighbours heads

    at-tail : Neighbours
    at-tail = record { heads = heads; tails = tails_of neighbours tail; tied = tied_of neighbours tail }

    at-head : Neighbours
    at-head = record { heads = heads_of one head; tails = tails; tied = tied }

    in-list : tail < length neighbours
    in-list = omega (arith, drawn.sound.tail n l, d.room)

    in-one : head < length one
    in-one = omega (arith, drawn.sound.head n l, length-set neighbours tail at-tail, d.room)

    -- Whom t has among its heads once the tail has its own: had before, or the one put in.
    comes : (t h : ℕ) → has (heads_of one t) h ≡ 1 → (has (heads_of neighbours t) h ≡ 1) ⊎ ((tail ≡ t) × (head ≡ h))
    comes t h k = ⊎_elim
        (λ (q : t ≡ tail). ⊎_elim
        (λ o. inl (ap (λ (x : ℕ). has (heads_of neighbours x) h) q ∙ o))
        (λ r. inr (sym q, r.0))
        (put_comes true s.head h (ap (λ (x : ℕ). has x h) (sym (store_here (λ (x : Neighbours). x.heads) neighbours tail at-tail in-list)) ∙ ap (λ (x : ℕ). has (heads_of one x) h) (sym q) ∙ k)))
        (λ f. inl (ap (λ (x : ℕ). has x h) (sym (store_there (λ (x : Neighbours). x.heads) neighbours tail at-tail t f)) ∙ k))
        (eq_or_ne t tail)

    here : (t h : ℕ) → tail ≡ t → head ≡ h → Before g (n + 1) (get_or between' (g.actors * t + h) 0) t h
    here t h p q =
        let in-room : g.actors * tail + head < length between = omega (arith, place_below g.actors tail head (drawn.sound.tail n l) (drawn.sound.head n l)) in
        let e : get_or between' (g.actors * t + h) 0 ≡ n = rw (← p, ← q, s.noted) (get_or-set_same between (g.actors * tail + head) n 0 in-room) in
        rw e (omega arith, p, q)

    joined : (t h : ℕ) → t < g.actors → h < g.actors → (has (heads_of neighbours t) h ≡ 1) ⊎ ((tail ≡ t) × (head ≡ h)) → Before g (n + 1) (get_or between' (g.actors * t + h) 0) t h
    joined t h lt lh (inr e) = here t h e.0 e.1
    joined t h lt lh (inl k) = ⊎_elim
        (λ (e : g.actors * t + h ≡ g.actors * tail + head).
        let o = place_one g.actors t h tail head lh (drawn.sound.head n l) e in
        here t h (sym o.0) (sym o.1))
        (λ a.
        let e : get_or between' (g.actors * t + h) 0 ≡ get_or between (g.actors * t + h) 0 = rw s.noted (get_or-set_other between (g.actors * tail + head) (g.actors * t + h) n 0 a) in
        let b = d.joins t h lt lh k in
        rw e (omega (arith, b.0), b.1, b.2))
        (eq_or_ne (g.actors * t + h) (g.actors * tail + head))

-- A channel more.
pub drawing_turn : {g : Graph} {n back back' : ℕ} {e : Channel} {neighbours : List Neighbours} {heads tails tied : ℕ} {between between' : List ℕ} → Drawn g → n < g.channels
    → g.actors * g.actors ≤ length between → Read g n e → Drawing g n back neighbours between
    → Draws g n e back back' neighbours heads tails tied between between' → Drawing g (n + 1) back' (head_put e (tail_put e neighbours heads) tails tied) between'
drawing_turn {g} {n} {back} {back'} {e} {neighbours} {heads} {tails} {tied} {between} {between'} drawn l room r d s =
    subst (λ (x : Channel). Draws g n x back back' neighbours heads tails tied between between' → Drawing g (n + 1) back' (head_put x (tail_put x neighbours heads) tails tied) between') r.is
    (draws drawn l room d) s

-- What a chart says of its neighbours, with the channels.
pub words_of : {g : Graph} {neighbours : List Neighbours} → ∥ Words g neighbours ∥₁ → Words g neighbours
words_of t =
    record {
      room = ∥∥₁_elim t le_prop (λ w. w.room);
      heads = gathers_of (∥∥₁_map t (λ w. w.heads));
      tails = gathers_of (∥∥₁_map t (λ w. w.tails));
      tied = gathers_of (∥∥₁_map t (λ w. w.tied));
    }
