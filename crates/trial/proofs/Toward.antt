-- 01, Deadlock: the trial run decides. How a run starts, that a visit carries it on, what a pass does, and what the end shows.
use mathlib.Core.Path.{◌≡◌, refl, sym, ◌∙◌, ap}
use mathlib.Core.Bool.{Bool, true, false}
use mathlib.Core.Logic.{⊎_elim, ◌≢◌}
use mathlib.Core.List.{List, [], ◌++◌}
use Prim.Native.Nat.{ℕ, zero, suc, ◌+◌, ◌*◌, ◌-◌, ◌^◌, ◌<◌, ◌≤◌}
use native.Mathlib.Nat.{le_of_eq, mul-le-mul, pos_of_ne-zero, mul-le-mul_right}
use native.Mathlib.Numerals.{add-one}
use native.Mathlib.Omega.{arith}
use borrow.Author.Tests.{eq-eqb, ne_eqb}
use lib.Dec.{eqb}
use lib.ListN.{length, get_or, set, replicate, take, get_or-append}
use lib.Seq.{get_or-set_same, get_or-set_other, get_or-take, length-take-le}
use Rattle.std.proofs.lemmas.List.{get_or-replicate, length-replicate}
use Rattle.units.specs.Bounds.{max_repetition}
use Rattle.sdf.specs.Graph.{Graph, Sound}
use Rattle.sdf.specs.Order.{State, initial, Enabled, added, after, Legal, firings, Lives}
use Rattle.sdf.specs.Sum.{sum_to}
use Rattle.sdf.proofs.Numbers.{lt_or_ge, eq_or_ne, chosen, passed}
use Rattle.sdf.proofs.Sum.{sum_ext, sum_bound, term_le_sum}
use Rattle.sdf.proofs.Order.{tokens_law, legal_append, after_append, firings_append}
use Rattle.sdf.proofs.Trial.{batch, batch_firings, batch_after, stuck}
use Rattle.trial.specs.Flat.{vector, Drawn}
use Rattle.sets.specs.Decides.{Decides}
use Rattle.trial.specs.Trial.{Greatest, Allows, Restores, Moved, Fired, Run, Visitable, Visited, Underway, Started}
use Rattle.trial.proofs.Firing.{removed_all, removed_none, added_all, added_none}

-- All of q still to come, and every actor ready.
pub started_filled : {n rest : ℕ} {q left filled : List ℕ} (ready : List ℕ) → ((v : ℕ) → v < n → get_or left v 0 ≡ get_or q v 0) → filled ≡ replicate n 1
    → rest ≡ sum_to (vector q) n → Started n q left (filled ++ ready) rest
started_filled {n} ready copies fills total = record {
  short = copies;
  woken = λ v l. rw fills (get_or-append (replicate n 1) ready 0 v (omega (arith, length-replicate {A = ℕ} n 1)) ∙ get_or-replicate n v 1 0 l);
  sum = total;
}

-- The same, where all of q is copied at once.
pub started_whole : {n rest : ℕ} {q copied filled : List ℕ} (left ready : List ℕ) → n ≤ length q → copied ≡ take n q → filled ≡ replicate n 1 → rest ≡ sum_to (vector q) n
    → Started n q (copied ++ left) (filled ++ ready) rest
started_whole {n} {q = q} left ready room copies fills total =
    started_filled ready (λ v l. rw copies (get_or-append (take n q) left 0 v (omega (arith, length-take-le n q room)) ∙ get_or-take n q v 0 l)) fills total

-- One actor more.
pub started_turn : {n i rest next : ℕ} (q : List ℕ) → rest ≡ sum_to (vector q) i → i < n → next ≡ rest + get_or (take n q) i 0 → next ≡ sum_to (vector q) (i + 1)
unfolding sum_to
started_turn {n} {i} q before inside more = rw add-one (omega (arith, before, more, get_or-take n q i 0 inside))

-- Before anything fires, all of q is still to come.
pub run_start : {g : Graph} {q tokens left ready : List ℕ} {rest : ℕ} → ((c : ℕ) → c < g.channels → get_or tokens c 0 ≡ initial g c)
    → Started g.actors q left ready rest → Run g (vector q) tokens left ready rest
unfolding Legal firings after
run_start {g} {q} {left = left} held started = record {
  order = [];
  legal = tt;
  short = λ v l. omega (arith, started.short v l);
  held = λ c l. sym (held c l);
  sum = started.sum ∙ sum_ext (vector q) (vector left) g.actors (λ v l. sym (started.short v l));
  waits = λ v l quiet. omega (arith, started.woken v l);
}

-- Sums whose terms agree but at v differ by those two terms.
sum_changed : (f h : ℕ → ℕ) (n v : ℕ) → v < n → ((i : ℕ) → i ≢ v → f i ≡ h i) → sum_to f n + h v ≡ sum_to h n + f v
unfolding sum_to
sum_changed f h zero v l same = omega arith
sum_changed f h (suc n) v l same =
    ⊎_elim
    (λ m. omega (arith, sum_changed f h n v m same, same n (λ e. omega arith)))
    (λ m. let e : n ≡ v = omega arith in omega (arith, sum_ext f h n (λ i k. same i (λ z. omega arith)), ap f e, ap h e))
    (lt_or_ge v n)

-- What a visit to v that fires it k times changes.
pub record Visit (g : Graph) (v k : ℕ) (tokens left ready tokens' left' ready' : List ℕ) : Type 0 where
  pub actor : v < g.actors
  pub restores : (c : ℕ) → c < g.channels → Restores (g.channel c)
  pub allowance : Greatest (Allows g.channel g.channels (vector tokens) v) (get_or left v 0) k
  pub moved : (c : ℕ) → c < g.channels → Moved (g.channel c) v k (get_or tokens c 0) (get_or tokens' c 0)
  pub less : get_or left' v 0 + k ≡ get_or left v 0
  pub others : (w : ℕ) → w ≢ v → get_or left' w 0 ≡ get_or left w 0
  pub kept : (w : ℕ) → w ≢ v → get_or ready' w 0 ≡ 0 → get_or ready w 0 ≡ 0
  pub woken : (w : ℕ) → w ≢ v → get_or ready' w 0 ≡ 0 → 0 < k → (c : ℕ) → c < g.channels → (g.channel c).tail ≡ v → (g.channel c).head ≡ w → get_or tokens' c 0 < (g.channel c).consume

module _ {g : Graph} {v k : ℕ} {tokens left ready tokens' left' ready' : List ℕ} (visit : Visit g v k tokens left ready tokens' left' ready') where
  -- Still short, v would have been allowed one firing more if it were enabled.
  v_waits : 0 < get_or left' v 0 → ¬ Enabled g (vector tokens') v
  v_waits short enabled =
      let one_more : Allows g.channel g.channels (vector tokens) v (k + 1) = λ c l. record {
        others = λ h t. omega (arith, enabled c l h, rw (removed_all (g.channel c) v h, added_none (g.channel c) v t) at (visit.moved c l).tokens);
        own = λ h t _. omega (
          arith,
          enabled c l h,
          rw (removed_all (g.channel c) v h, added_all (g.channel c) v t, visit.restores c l (t ∙ sym h)) at (visit.moved c l).tokens,
        );
      } in
      omega (arith, visit.allowance.greatest (k + 1) (omega (arith, visit.less)) one_more)

  -- Another actor that is not ready has got no tokens, or too few.
  other_waits : (w : ℕ) → w ≢ v → get_or ready' w 0 ≡ 0 → Enabled g (vector tokens') w → Enabled g (vector tokens) w
  other_waits w n quiet enabled c l h =
      let e = g.channel c in
      let none : k * added e v ≡ 0 = ⊎_elim
      (λ p. rw (added_none e v (λ t. omega (arith, visit.woken w n quiet p c l t h, enabled c l h))) (omega arith))
      (λ (z : k ≤ 0). let none : k ≡ 0 = omega arith in rw none (omega arith))
      (lt_or_ge 0 k) in
      omega (arith, enabled c l h, none, rw (removed_none e v (λ t. n (sym h ∙ t))) at (visit.moved c l).tokens)

  -- The firings of a visit make a legal order longer.
  in_a_row : (s : State) → ((c : ℕ) → c < g.channels → s c ≡ get_or tokens c 0) → Legal g s (replicate k v)
  in_a_row s same =
      batch g s v k visit.actor
      (λ c l h n. rw (same c l) ((visit.allowance.holds c l).others h n))
      (λ c l h t. (λ p. rw (same c l) ((visit.allowance.holds c l).own h t p), le_of_eq (sym (visit.restores c l (t ∙ sym h)))))

  -- A visit carries a run on.
  pub visit_run : (q : ℕ → ℕ) (rest : ℕ) → Run g q tokens left ready rest → Run g q tokens' left' ready' (rest - k)
  visit_run q rest run =
      let s : State = after g (initial g) run.order in
      let row = in_a_row s run.held in
      record {
        order = run.order ++ replicate k v;
        legal = legal_append g (initial g) run.order (replicate k v) run.legal row;
        short = λ w l. rw (firings_append w run.order (replicate k v), batch_firings w v k)
            (⊎_elim
            (λ e. omega (arith, chosen {a = v} {b = w} k 0 (sym e), run.short w l, visit.less, ap (λ (x : ℕ). get_or left' x 0) e, ap (λ (x : ℕ). get_or left x 0) e))
            (λ n. omega (arith, passed {a = v} {b = w} k 0 (λ e. n (sym e)), run.short w l, visit.others w n))
            (eq_or_ne w v));
        held = λ c l. rw after_append (omega (arith, batch_after g s v k row c l, (visit.moved c l).tokens, run.held c l));
        sum = omega (arith, run.sum, visit.less, sum_changed (vector left') (vector left) g.actors v visit.actor visit.others);
        waits = λ w l quiet short enabled. ⊎_elim
            (λ e. v_waits (rw e at short) (rw e at enabled))
            (λ n. run.waits w l (visit.kept w n quiet) (rw (visit.others w n) at short) (other_waits w n quiet enabled))
            (eq_or_ne w v);
      }

  -- Where a visit that fires nothing makes nobody ready, it is all that is asked of a visit.
  visited : (k ≡ 0 → (w : ℕ) → (w ≢ v → get_or ready w 0 ≡ 0) → get_or ready' w 0 ≡ 0) → Visited g v k tokens left ready tokens' left' ready'
  visited still = record {
    run = visit_run;
    fewer = omega (arith, visit.less, sum_changed (vector left') (vector left) g.actors v visit.actor visit.others);
    still = still;
  }

-- Marking v not ready leaves the others as they were.
unready : {v w : ℕ} (ready : List ℕ) → w ≢ v → get_or (set ready v 0) w 0 ≡ get_or ready w 0
unready {v} {w} ready n = get_or-set_other ready v w 0 0 n

module _ {g : Graph} {v short k : ℕ} {tokens left ready : List ℕ} (drawn : Drawn g) (able : Visitable g tokens left ready) (actor : v < g.actors)
    (all : short ≡ get_or left v 0) (allowance : Greatest (Allows g.channel g.channels (vector tokens) v) short k) where
  -- A visit that is allowed nothing leaves v not ready.
  pub visit_still : k ≡ 0 → Visited g v k tokens left ready tokens left (set ready v 0)
  visit_still none =
      visited
      record {
        actor = actor;
        restores = able.restores;
        allowance = rw all at allowance;
        moved = λ c l. record { tokens = rw none (omega arith) };
        less = omega arith;
        others = λ w n. refl;
        kept = λ w n e. sym (unready ready n) ∙ e;
        woken = λ w n e p. omega arith;
      }
      (λ _ w before. ⊎_elim
      (λ e. rw e (get_or-set_same ready v 0 0 (omega (arith, able.ready_room))))
      (λ n. unready ready n ∙ before n)
      (eq_or_ne w v))

  -- A visit that fires as often as is allowed carries every run on by so many firings.
  pub visit_fires : {stored : ℕ} {tokens' ready' : List ℕ} → k ≢ 0 → Fired g.channel g.channels v k tokens (set ready v 0) tokens' ready'
      → stored ≡ short - k → Visited g v k tokens left ready tokens' (set left v stored) ready'
  visit_fires {stored} some fired less =
      visited
      record {
        actor = actor;
        restores = able.restores;
        allowance = rw all at allowance;
        moved = fired.moved;
        less = rw (get_or-set_same left v stored 0 (omega (arith, able.left_room))) (omega (arith, allowance.within));
        others = λ w n. get_or-set_other left v w stored 0 n;
        kept = λ w n e. sym (unready ready n) ∙ fired.kept w e;
        woken = λ w n e _. fired.woken w e n;
      }
      (λ none. absurd (some none))

-- All through a run the numbers stay within the bounds that a visit asks.
pub run_visitable : {g : Graph} {tokens left ready : List ℕ} → Drawn g → Underway g tokens left ready → Visitable g tokens left ready
run_visitable {g} drawn way = let run = way.run in let runnable = way.runnable in record {
  restores = runnable.restores;
  held = λ c l.
      let e = g.channel c in
      let tail = drawn.sound.tail c l in
      omega (
        arith,
        tokens_law g (initial g) run.order run.legal c l,
        run.held c l,
        drawn.tokens c l,
        mul-le-mul {n₁ = firings e.tail run.order} {n₂ = max_repetition} (omega (arith, run.short e.tail tail, runnable.bound e.tail tail)) (drawn.produce c l),
      );
  short = λ v l. omega (arith, run.short v l, runnable.bound v l);
  tokens_room = way.tokens_room;
  left_room = way.left_room;
  ready_room = way.ready_room;
}

-- Visits that begin with one to v, before the next one, to w: k firings are made, and where these are none nobody but w is ready
-- who was not.
pub record Following (g : Graph) (v w k : ℕ) (tokens left ready tokens' left' ready' : List ℕ) : Type 0 where
  pub run : (q : ℕ → ℕ) (rest : ℕ) → Run g q tokens left ready rest → Run g q tokens' left' ready' (rest - k)
  pub fewer : sum_to (vector left') g.actors + k ≡ sum_to (vector left) g.actors
  pub still : k ≡ 0 → (u : ℕ) → (u ≢ v → get_or ready u 0 ≡ 0) → u ≢ w → get_or ready' u 0 ≡ 0

-- One visit more.
pub following_visit : {g : Graph} {v w k j n : ℕ} {tokens left ready tokens' left' ready' tokens'' left'' ready'' : List ℕ}
    → Following g v w k tokens left ready tokens' left' ready' → Visited g w j tokens' left' ready' tokens'' left'' ready'' → n ≡ k + j
    → Visited g v n tokens left ready tokens'' left'' ready''
following_visit {k = k} {j} {n} before visited both = record {
  run = λ q rest run. let same : rest - n ≡ rest - k - j = omega arith in rw same (visited.run q (rest - k) (before.run q rest run));
  fewer = omega (arith, before.fewer, visited.fewer);
  still = λ none u quiet. visited.still (omega arith) u (before.still (omega arith) u quiet);
}

-- Visits, and then one to w.
pub following_again : {g : Graph} {v w k : ℕ} {tokens left ready tokens' left' ready' : List ℕ} → Visited g v k tokens left ready tokens' left' ready'
    → Following g v w k tokens left ready tokens' left' ready'
following_again visited = record { run = visited.run; fewer = visited.fewer; still = λ none u quiet _. visited.still none u quiet }

-- Visits leave a run under way.
pub following_underway : {g : Graph} {v w k : ℕ} {tokens left ready tokens' left' ready' : List ℕ} → Underway g tokens left ready
    → Following g v w k tokens left ready tokens' left' ready' → length tokens' ≡ length tokens → length left' ≡ length left → length ready' ≡ length ready
    → Underway g tokens' left' ready'
following_underway way following same_tokens same_left same_ready = record {
  q = way.q;
  runnable = way.runnable;
  rest = _;
  run = following.run _ _ way.run;
  tokens_room = omega (arith, way.tokens_room, same_tokens);
  left_room = omega (arith, way.left_room, same_left);
  ready_room = omega (arith, way.ready_room, same_ready);
}

-- How often visits can fire fits.
pub visited_fits : {g : Graph} {v k : ℕ} {tokens left ready tokens' left' ready' : List ℕ} → Drawn g → Underway g tokens left ready
    → Visited g v k tokens left ready tokens' left' ready' → k < 2 ^ 64
visited_fits {g} {left = left} drawn way visited =
    omega (arith, visited.fewer, drawn.actors, sum_bound (vector left) g.actors max_repetition (run_visitable drawn way).short)

-- What the visits along the hints use up: the firings still to come and, where nothing fires, the hints.
abbrev pub ahead : ℕ → List ℕ → List ℕ → ℕ
ahead actors left hints = sum_to (vector left) actors * (length hints + 1) + (length hints - (length hints - get_or hints 0 0))

-- An actor is visited and a hint taken off.
pub hint_less : {g : Graph} {v k : ℕ} {tokens left ready tokens' left' ready' hints mid : List ℕ} (hints' : List ℕ) → Visited g v k tokens left ready tokens' left' ready'
    → (k ≡ 0 → mid ≡ hints) → (get_or hints' 0 0 < get_or mid 0 0) × (get_or mid 0 0 < length mid) → length mid ≡ length hints → length hints' ≡ length mid
    → ahead g.actors left' hints' < ahead g.actors left hints
hint_less {k = k} {hints = hints} hints' visited same less first second =
    let fewer = ap (λ (x : ℕ). x * (length hints + 1)) visited.fewer in
    rw (second ∙ first) (⊎_elim
    (λ p. omega (arith, fewer, mul-le-mul_right (length hints + 1) p))
    (λ (z : k ≤ 0). omega (arith, fewer, less.0, less.1, first, ap (λ (xs : List ℕ). get_or xs 0 0) (same (omega arith))))
    (lt_or_ge 0 k))

-- Within a pass that began with `before` firings still to come: if something has fired there are fewer now; if not, no actor
-- passed is ready.
pub record Pass (g : Graph) (q : ℕ → ℕ) (tokens left ready : List ℕ) (before rest : ℕ) (fired : Bool) (v : ℕ) : Type 0 where
  pub run : Run g q tokens left ready rest
  pub most : rest ≤ before
  pub more : fired ≡ true → rest < before
  pub still : fired ≡ false → (w : ℕ) → w < v → get_or ready w 0 ≡ 0

-- A run that has ended: nothing is left to fire, or no actor is ready.
pub record Over (g : Graph) (q : ℕ → ℕ) (tokens left ready : List ℕ) (rest : ℕ) : Type 0 where
  pub run : Run g q tokens left ready rest
  pub quiet : 0 < rest → (v : ℕ) → v < g.actors → get_or ready v 0 ≡ 0

-- A run with nothing left to fire has ended.
pub over_done : {g : Graph} {q : ℕ → ℕ} {tokens left ready : List ℕ} {rest : ℕ} → Run g q tokens left ready rest → rest ≡ 0 → Over g q tokens left ready rest
over_done run done = record { run = run; quiet = λ p. omega arith }

-- A run has ended with a whole pass in which nothing fired.
pub over_stuck : {g : Graph} {q : ℕ → ℕ} {tokens left ready : List ℕ} {before rest v : ℕ} {fired : Bool}
    → Pass g q tokens left ready before rest fired v → g.actors ≤ v → fired ≡ false → Over g q tokens left ready rest
over_stuck pass all none = record { run = pass.run; quiet = λ _ w l. pass.still none w (omega arith) }

-- A run that has ended reached the counts exactly if some legal order has them.
pub run_decides : {g : Graph} {q : ℕ → ℕ} {tokens left ready : List ℕ} {rest : ℕ} → Sound g → Over g q tokens left ready rest → Decides (eqb rest 0) (Lives g q)
run_decides {g} {q} {tokens} {left} {ready} {rest} sound over = ⊎_elim
    (λ e. rw (eq-eqb rest 0 e) (over.run.order, over.run.legal, λ v l. omega (arith, over.run.short v l, over.run.sum, term_le_sum (vector left) g.actors v l)))
    (λ n. rw (ne_eqb rest 0 n) (stuck_here (pos_of_ne-zero n)))
    (eq_or_ne rest 0)
  where
    stuck_here : 0 < rest → ¬ Lives g q
    stuck_here some lives =
        let ended : (v : ℕ) → v < g.actors → firings v over.run.order < q v → ¬ Enabled g (after g (initial g) over.run.order) v =
        λ v l short enabled. over.run.waits v l (over.quiet some v l) (omega (arith, over.run.short v l)) (λ c m h. rw (over.run.held c m) at (enabled c m h)) in
        let done : (v : ℕ) → v < g.actors → get_or left v 0 ≤ 0 = λ v l. ⊎_elim
        (λ p. absurd (stuck sound q over.run.order over.run.legal ended v l (omega (arith, over.run.short v l)) lives))
        (λ z. z)
        (lt_or_ge 0 (get_or left v 0)) in
        omega (arith, over.run.sum, sum_bound (vector left) g.actors 0 done)
