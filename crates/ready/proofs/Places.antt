-- Numbers written into their places, one after the other: what stands before them stays.
use mathlib.Core.Path.{◌≡◌, sym, ap, ◌∙◌}
use mathlib.Core.Bool.{true}
use mathlib.Core.Logic.{⊎_elim}
use mathlib.Core.List.{List}
use Prim.Native.Nat.{ℕ, ◌+◌, ◌*◌, ◌<◌, ◌≤◌}
use native.Mathlib.Omega.{arith}
use lib.ListN.{length, get_or, take, drop, set, length-drop}
use lib.Seq.{length-take-le, ext_get_or, get_or-take, get_or-drop, get_or-set_same, get_or-set_other}
use Rattle.std.specs.Prelude.{map}
use Rattle.std.proofs.lemmas.List.{get_or-map, length-map}
use Rattle.demand.specs.Lent.{no_head, no_actor}
use Rattle.demand.specs.declared.rows.Head.{Head}
use Rattle.demand.specs.declared.rows.Actor.{Actor}
use Rattle.sdf.proofs.Numbers.{lt_or_ge}
use Rattle.sheet.specs.Layout.{in_numbers}
use Rattle.sheet.specs.Check.{actor_count, sized, stretch, times_of}
use Rattle.sheet.proofs.Ranges.{few_actors}
use Rattle.ready.specs.Graphs.{Judged, judged}
use Rattle.ready.specs.Rows.{Row, row_at}
use Rattle.ready.specs.Ready.{Met, Headed, Placed}
use Rattle.ready.proofs.Sound.{times_length}

-- The first n numbers of y are those of the actors of row k, where each is.
row_numbers :
    (f : Actor → ℕ) (n k : ℕ) (actors : List Actor) (y : List ℕ) → 32 * k + n ≤ length actors → length (take n y) ≡ n →
    ((v : ℕ) → v < n → f (get_or actors (32 * k + v) no_actor) ≡ get_or y v 0) → map f (row_at actors k n) ≡ take n y
row_numbers f n k actors y h g each =
    let p : length (row_at actors k n) ≡ n = length-take-le n (drop (32 * k) actors) (omega (arith, length-drop (32 * k) actors)) in
    let q : length (map f (row_at actors k n)) ≡ n = length-map (row_at actors k n) f ∙ p in
    ext_get_or 0 _ _ (q ∙ sym g) (λ v l.
    let m : v < n = omega arith in
    let inside : v < length (row_at actors k n) = omega arith in
    get_or-map f (row_at actors k n) v no_actor 0 inside
    ∙ ap f (get_or-take n (drop (32 * k) actors) v no_actor m ∙ get_or-drop (32 * k) actors v no_actor)
    ∙ each v m
    ∙ sym (get_or-take n y v 0 m))

-- The first n actors of row i, where they are as they were.
row_same :
    (n i : ℕ) (before after : List Actor) → 32 * i + n ≤ length before → 32 * i + n ≤ length after →
    ((v : ℕ) → v < n → get_or after (32 * i + v) no_actor ≡ get_or before (32 * i + v) no_actor) → row_at after i n ≡ row_at before i n
row_same n i before after h g each =
    let a : ℕ = 32 * i in
    let p : length (row_at before i n) ≡ n = length-take-le n (drop a before) (omega (arith, length-drop a before)) in
    let q : length (row_at after i n) ≡ n = length-take-le n (drop a after) (omega (arith, length-drop a after)) in
    ext_get_or no_actor _ _ (q ∙ sym p) (λ v l.
    let m : v < n = omega arith in
    get_or-take n (drop a after) v no_actor m
    ∙ get_or-drop a after v no_actor
    ∙ each v m
    ∙ sym (get_or-take n (drop a before) v no_actor m ∙ get_or-drop a before v no_actor))

-- The next actor's numbers are written.
pub placed_turn :
    {l q s : List ℕ} {k v : ℕ} {before now : List Actor} {a : Actor} → Placed l q s k v before now → 32 * k + v < length now →
    a.time.n ≡ get_or (times_of l) v 0 → a.repetition.n ≡ get_or q v 0 → a.skip.n ≡ get_or s v 0 →
    Placed l q s k (v + 1) before (set now (32 * k + v) a)
placed_turn {l} {q} {s} {k} {v} {before} {now} {a} p room time repetition skip = record {
  time = each (λ (a : Actor). a.time.n) (λ i. get_or (times_of l) i 0) p.time time;
  repetition = each (λ (a : Actor). a.repetition.n) (λ i. get_or q i 0) p.repetition repetition;
  skip = each (λ (a : Actor). a.skip.n) (λ i. get_or s i 0) p.skip skip;
  same = λ i h. get_or-set_other now (32 * k + v) i a no_actor (λ e. omega arith) ∙ p.same i h;
}
  where
    each :
        (f : Actor → ℕ) (y : ℕ → ℕ) → ((i : ℕ) → i < v → f (get_or now (32 * k + i) no_actor) ≡ y i) → f a ≡ y v →
        (i : ℕ) → i < v + 1 → f (get_or (set now (32 * k + v) a) (32 * k + i) no_actor) ≡ y i
    each f y old new i h =
        ⊎_elim
        (λ m. ap f (get_or-set_other now (32 * k + v) (32 * k + i) a no_actor (λ e. omega arith)) ∙ old i m)
        (λ m.
        let e : i ≡ v = omega arith in
        rw e (ap f (get_or-set_same now (32 * k + v) a no_actor room) ∙ new))
        (lt_or_ge i v)

-- Graph k stands in its places, and the heads and rows before it are as they were.
pub record Filled (j : Judged) (k : ℕ) (heads heads' : List Head) (actors actors' : List Actor) : Type 0 where
  pub row : Row j heads' actors' k
  pub heads_same : (i : ℕ) → i < k → get_or heads' i no_head ≡ get_or heads i no_head
  pub actors_same : (i : ℕ) → i < 32 * k → get_or actors' i no_actor ≡ get_or actors i no_actor

-- Head and row of graph k are where its numbers stand.
pub filled :
    {l q s : List ℕ} {heads : List Head} {head : Head} {before actors : List Actor} {k : ℕ} → sized l ≡ true →
    stretch in_numbers l ≤ length l → Met l (take (actor_count l) q) (take (actor_count l) s) → k < length heads →
    32 * k + 32 ≤ length actors → Headed l head → Placed l q s k (actor_count l) before actors →
    Filled (judged l (take (actor_count l) q) (take (actor_count l) s)) k heads (set heads k head) before actors
filled {l} {q} {s} {heads} {head} {before} {actors} {k} counts whole m h_room room h p =
    let n : ℕ = actor_count l in
    let e = times_length l counts whole in
    let r_room : 32 * k + n ≤ length actors = omega (arith, few_actors l counts) in
    let d : get_or (set heads k head) k no_head ≡ head = get_or-set_same heads k head no_head h_room in
    record {
      row = record {
        period = rw d h.period;
        deadline = rw d h.deadline;
        count = rw d (h.actors ∙ sym e);
        times =
            rw e
            (row_numbers (λ (a : Actor). a.time.n) n k actors (drop 6 l) r_room e (λ v m. p.time v m ∙ get_or-take n (drop 6 l) v 0 m));
        repetition = rw e (row_numbers (λ (a : Actor). a.repetition.n) n k actors q r_room m.repetition.each p.repetition);
        skips = rw e (row_numbers (λ (a : Actor). a.skip.n) n k actors s r_room m.skips.each p.skip);
      };
      heads_same = λ i m. get_or-set_other heads k i head no_head (λ c. omega arith);
      actors_same = p.same;
    }

-- A graph stays in its places while those of graph k are filled.
pub row_kept :
    {heads heads' : List Head} {actors actors' : List Actor} (j : Judged) (i : ℕ) {k : ℕ} {other : Judged} → i < k →
    length j.times ≤ 32 → 32 * k ≤ length actors → length actors' ≡ length actors → Filled other k heads heads' actors actors' →
    Row j heads actors i → Row j heads' actors' i
row_kept {heads} {heads'} {actors} {actors'} j i l few room e p r =
    let h : get_or heads' i no_head ≡ get_or heads i no_head = p.heads_same i l in
    let a : row_at actors' i (length j.times) ≡ row_at actors i (length j.times) =
    row_same (length j.times) i actors actors' (omega arith) (omega arith) (λ v b. p.actors_same (32 * i + v) (omega arith)) in
    record {
      period = rw h r.period;
      deadline = rw h r.deadline;
      count = rw h r.count;
      times = rw a r.times;
      repetition = rw a r.repetition;
      skips = rw a r.skips;
    }
