-- 01, answer 6, step by step: the fields of a graph, then the graphs.
use mathlib.Core.Path.{◌≡◌, refl, sym, ◌∙◌}
use mathlib.Core.Bool.{Bool, true, false, ◌&&◌}
use mathlib.Core.List.{List, [], ◌∷◌, ◌++◌}
use Prim.Native.Nat.{ℕ, zero, suc, ◌+◌, ◌-◌, ◌*◌, ◌/◌, ◌≤◌, ◌<◌, suc-le-suc}
use native.Mathlib.Nat.{zero-lt-suc, not-suc-le-zero, le-div_iff_mul-le, le_of_suc-le-suc}
use native.Mathlib.Numerals.{add-one}
use native.Mathlib.Omega.{arith}
use Rattle.std.specs.Prelude.{Ok, Err}
use Rattle.std.specs.Prelude.{Option, Some, IsTrue}
use Rattle.std.specs.List.{list_all}
use Rattle.std.specs.Bool.{MatchBool}
use Rattle.std.specs.Iterator.Runs.{Run, YieldsRun, CallKeepsClosure, IsChunksExactRun, AllItemsGive, AnyItemGives}
use Rattle.std.proofs.Common.{inl, inr}
use Rattle.std.proofs.lemmas.Option.{slice_get_cases}
use denote.Ref.{Bor}
use denote.Param.Members.{Mut, Called}
use lib.Seq.{drop-drop, get_or-drop}
use Rattle.std.proofs.lemmas.List.{get_or-take}
use lib.ListN.{length, get_or, take, drop, length-take, length-drop}
use Rattle.units.specs.Bounds.{max_graphs, max_actors, max_channels, max_ticks, max_time, max_rate, max_tokens}
use Rattle.units.specs.Within.{between}
use Rattle.sheet.specs.Field.{Field}
use Rattle.sheet.specs.declared.Refusal.{Refusal}
use Rattle.sheet.specs.declared.Refusal.TheVariants.{Range}
use Rattle.sheet.specs.Answer.{unless}
use Rattle.sheet.specs.Layout.{fixed_part, actor_part, channel_part, times, layout, total, in_numbers}
use Rattle.sheet.specs.Fields.{in_range}
use Rattle.sheet.specs.Check.{actor_count, channel_count, times_of, channels_of, sized, stretch, first_walk, check_list}
use Rattle.sheet.specs.Forms.{layout_of, range_walk, check_numbers}
use Rattle.sheet.proofs.GraphLayout.{length_fields, total_times, layout_numbers}
use Rattle.sheet.proofs.Forms.{Graphs, graphs_on}
use Rattle.sheet.specs.Sizes.{sizes_numbers}
use Rattle.sheet.proofs.Walk.{part_is_drop, and_true, sized_gives, left_turn, left_on, Left}

-- The graph at the start of l is 6 numbers, one for each actor and 5 for each channel.
pub stretch_numbers : (l : List ℕ) → stretch in_numbers l ≡ 6 + actor_count l + 5 * channel_count l
unfolding stretch
stretch_numbers l = layout_numbers (actor_count l) (channel_count l)

-- The graph at the start of l is all there, and its counts are within bounds.
pub all_there : (l : List ℕ) → sized l ≡ true → stretch in_numbers l ≤ length l → 6 + actor_count l + 5 * channel_count l ≤ length l
all_there l counts whole = omega (arith, stretch_numbers l)

pub some_actor : (l : List ℕ) → sized l ≡ true → 1 ≤ actor_count l
some_actor l counts = (sized_gives l counts).some

pub few_actors : (l : List ℕ) → sized l ≡ true → actor_count l ≤ 32
few_actors l counts = (sized_gives l counts).actors

pub few_channels : (l : List ℕ) → sized l ≡ true → channel_count l ≤ 64
few_channels l counts = (sized_gives l counts).channels

-- The n numbers from place `at` on.
pub part_from : (l : List ℕ) (at n : ℕ) → take (at + n - at) (drop at l) ≡ take n (drop at l)
part_from l at n =
    let e : at + n - at ≡ n = omega arith in
    rw e

pub ruleset graph_there = (stretch_numbers, all_there, some_actor, few_actors, few_channels, part_from)

-- The numbers from the graph at place `at` on.
abbrev pub next_of : List ℕ → ℕ → List ℕ
next_of l at = take (length l - at) (drop at l)

and_assoc : (a b c : Bool) → ((a && b) && c) ≡ (a && (b && c))
and_assoc true b c = refl
and_assoc false b c = refl

and_only : (a : Bool) → (a && true) ≡ a
and_only true = refl
and_only false = refl

never : (a : Bool) → false ≡ (a && false)
never true = refl
never false = refl

range_append : (L M : List Field) (l : List ℕ) → in_range (L ++ M) l ≡ (in_range L l && in_range M (drop (total in_numbers L) l))
unfolding in_range total
range_append [] M l = refl
range_append (f ∷ L) M l =
    rw (range_append L M (drop 1 l), drop-drop)
    (sym (and_assoc (between f.low f.high (get_or l 0 0)) (in_range L (drop 1 l)) (in_range M (drop (1 + total in_numbers L) l))))

same_range : (L : List Field) (v w : List ℕ) → ((i : ℕ) → i < length L → get_or v i 0 ≡ get_or w i 0) → in_range L v ≡ in_range L w
unfolding in_range
same_range [] v w e = refl
same_range (f ∷ L) v w e =
    rw (e 0 (zero-lt-suc _), same_range L (drop 1 v) (drop 1 w) (λ i h. get_or-drop 1 v i 0 ∙ e (1 + i) (omega arith) ∙ sym (get_or-drop 1 w i 0)))

module _ (part : List Field) {w : ℕ} (ew : total in_numbers part ≡ w) where
  range_more : (n : ℕ) (l : List ℕ) → in_range (times (suc n) part) l ≡ (in_range part l && in_range (times n part) (drop w l))
  unfolding times
  range_more n l = range_append part (times n part) l ∙ rw ew

  -- n times the same part is in range where each is.
  all_range : (n : ℕ) (l : List ℕ) → ((k at : ℕ) → k < n → at ≡ k * w → in_range part (drop at l) ≡ true) → true ≡ in_range (times n part) l
  unfolding times in_range
  all_range zero l e = refl
  all_range (suc n) l e =
      rw (range_more n l, e 0 0 (zero-lt-suc _) (omega arith))
      (all_range n (drop w l) (λ k at h d. rw drop-drop (e (suc k) (w + at) (suc-le-suc h) (omega arith))))

  -- One out of range is enough.
  one_range : (n : ℕ) (l : List ℕ) (k at : ℕ) → k < n → at ≡ k * w → in_range part (drop at l) ≡ false → false ≡ in_range (times n part) l
  one_range zero l k at h d e = absurd (not-suc-le-zero h)
  one_range (suc n) l zero at h d e =
      let z : at ≡ 0 = omega arith in
      rw (range_more n l, rw z at e)
  one_range (suc n) l (suc k) at h d e =
      let z : at ≡ w + (at - w) = omega arith in
      rw (range_more n l, ← one_range n (drop w l) k (at - w) (le_of_suc-le-suc h) (omega arith) (rw (drop-drop, ← z) e)) (never (in_range part l))

-- Worst-case times are in range where each is.
pub times_range : (n : ℕ) (l : List ℕ) → n ≤ length l → in_range (times n actor_part) l ≡ list_all (between 0 max_time) (take n l)
unfolding in_range actor_part times
times_range zero l h = refl
times_range (suc n) [] h = absurd (omega arith)
times_range (suc n) (x ∷ l) h = rw (times_range n l (le_of_suc-le-suc h))

-- A channel's five numbers.
pub channel_range :
    (a : ℕ) (l : List ℕ) →
    (((between 0 (a - 1) (get_or l 0 0) && between 0 (a - 1) (get_or l 1 0))
    && (between 1 max_rate (get_or l 2 0) && between 1 max_rate (get_or l 3 0)))
    && between 0 max_tokens (get_or l 4 0))
    ≡ in_range (channel_part a) l
unfolding in_range channel_part
channel_range a l = simp (and_assoc, and_only, get_or-drop, drop-drop)

-- The fixed part's numbers behind the counts, where those are within their bounds.
pub fixed_range :
    (l : List ℕ) → sized l ≡ true → let a = actor_count l in
    (((between 0 (a - 1) (get_or l 2 0) && between 0 (a - 1) (get_or l 3 0)) && between 1 max_ticks (get_or l 4 0)) && between 1 max_ticks (get_or l 5 0))
    ≡ in_range (fixed_part a) l
unfolding in_range fixed_part sized
fixed_range l e =
    let p : (between 1 max_actors (actor_count l) ≡ true) × (between 0 max_channels (channel_count l) ≡ true) = and_true _ _ e in
    simp (p.0, p.1, and_assoc, and_only, get_or-drop, drop-drop)

-- A graph is in range where its fixed part, its actors and its channels are.
graph_range :
    (l : List ℕ) → let a = actor_count l in let c = channel_count l in
    in_range (layout_of l) l
    ≡ (in_range (fixed_part a) l && (in_range (times a actor_part) (drop 6 l) && in_range (times c (channel_part a)) (drop (6 + a) l)))
unfolding layout
graph_range l =
    let a : ℕ = actor_count l in
    let rest : List Field = times (channel_count l) (channel_part a) in
    let few : total in_numbers (times a actor_part) ≡ a = rw (total_times in_numbers a actor_part, sizes_numbers.actor_is) (omega arith) in
    rw (
      range_append (fixed_part a) (times a actor_part ++ rest) l,
      sizes_numbers.fixed_is a,
      range_append (times a actor_part) rest (drop 6 l),
      few,
      drop-drop,
    )

-- So it is where those parts are, each by itself.
pub graph_parts :
    (l : List ℕ) → sized l ≡ true → stretch in_numbers l ≤ length l → let a = actor_count l in
    let part = channels_of l in
    in_range (layout_of l) l
    ≡ (in_range (fixed_part a) l && (list_all (between 0 max_time) (times_of l) && in_range (times (length part / 5) (channel_part a)) part))
graph_parts l counts whole =
    let a : ℕ = actor_count l in
    let c : ℕ = channel_count l in
    let part : List ℕ = channels_of l in
    let fields : List Field = channel_part a in
    let long : length part ≡ 5 * c = simp (length-take, length-drop) (omega (arith, all_there l counts whole)) in
    let count : length part / 5 ≡ c = omega arith in
    let inside : length (times c fields) ≡ c * 5 = length_fields (times c fields) ∙ total_times in_numbers c fields ∙ rw (sizes_numbers.channel_is a) in
    let same : in_range (times c fields) part ≡ in_range (times c fields) (drop (6 + a) l) =
    same_range (times c fields) part (drop (6 + a) l) (λ i j. get_or-take (5 * c) (drop (6 + a) l) i 0 (omega arith)) in
    rw (count, same, ← times_range a (drop 6 l) (omega (arith, length-drop 6 l, all_there l counts whole))) (graph_range l)

-- The ranges of the n graphs of l, come to graph k, where t is left: the graphs of t decide.
pub record RangesWalk (n : ℕ) (l : List ℕ) (k : ℕ) (t : List ℕ) : Type 0 where
  pub walk : Left in_numbers n l k t
  pub rest : range_walk (n - k) k t ≡ range_walk n 0 l

module _ {n : ℕ} {l : List ℕ} {k : ℕ} {t : List ℕ} (r : RangesWalk n l k t) (h : k < n) where
  at_graph :
      range_walk n 0 l ≡ unless (in_range (layout_of t) t) (Range k) (range_walk (n - (k + 1)) (k + 1) (drop (stretch in_numbers t) t))
  unfolding range_walk
  at_graph =
      let e : n - k ≡ suc (n - (k + 1)) = omega arith in
      rw (← r.rest, e, add-one k)

  -- A graph out of range is refused by its number.
  pub ranges_no : in_range (layout_of t) t ≡ false → Err (Range k) ≡ range_walk n 0 l
  ranges_no e = rw (at_graph, e)

  -- A graph in range leaves it to those behind it.
  pub ranges_turn : first_walk in_numbers n 0 l ≡ Ok tt → in_range (layout_of t) t ≡ true → RangesWalk n l (k + 1) (drop (stretch in_numbers t) t)
  ranges_turn o e = record { walk = left_turn r.walk h (left_on r.walk h o); rest = rw (at_graph, e) }

-- After the last graph all are in range.
pub ranges_end : {n : ℕ} {l : List ℕ} {k : ℕ} {t : List ℕ} → RangesWalk n l k t → n ≤ k → Ok tt ≡ range_walk n 0 l
unfolding range_walk
ranges_end {n} {l} {k} {t} r h =
    let e : n - k ≡ 0 = omega arith in
    rw (← r.rest, e)

-- An unpacked form with a graph count of at most 8 whose graphs pass the first walk.
pub record Listed (l : List ℕ) : Type 0 where
  pub inside : 1 ≤ length l
  pub few : get_or l 0 0 ≤ max_graphs
  pub walk : first_walk in_numbers (get_or l 0 0) 0 (next_of l 1) ≡ Ok tt

count_inside : (l : List ℕ) → 1 ≤ get_or l 0 0 → 1 ≤ length l
count_inside [] h = h
count_inside (x ∷ l) h = omega arith

-- Graphs that pass answers 3 to 5 make it one.
pub listed : (l : List ℕ) → Graphs in_numbers (get_or l 0 0) (drop 1 l) → Listed l
listed l g = record { inside = count_inside l g.some; few = g.few; walk = rw part_is_drop g.walk }

-- Where answers 3 to 5 do not refuse, it is one.
pub list_on : (l : List ℕ) → check_list l ≡ Ok tt → Listed l
unfolding check_list
list_on l e = listed l (graphs_on in_numbers (get_or l 0 0) (drop 1 l) e)

pub list_inside : (l : List ℕ) → check_list l ≡ Ok tt → 1 ≤ length l
list_inside l e = (list_on l e).inside

pub list_few : (l : List ℕ) → check_list l ≡ Ok tt → get_or l 0 0 ≤ max_graphs
list_few l e = (list_on l e).few

pub list_walk : (l : List ℕ) → check_list l ≡ Ok tt → first_walk in_numbers (get_or l 0 0) 0 (next_of l 1) ≡ Ok tt
list_walk l e = (list_on l e).walk

pub ruleset list_passed = (list_inside, list_few, list_walk)

-- A refusal of answers 3 to 5 stands.
pub numbers_no : (l : List ℕ) (r : Refusal) → check_list l ≡ Err r → Err r ≡ check_numbers l
unfolding check_numbers
numbers_no l r e = rw e

-- Past them the ranges decide.
pub numbers_ranges : (l : List ℕ) → check_list l ≡ Ok tt → range_walk (get_or l 0 0) 0 (next_of l 1) ≡ check_numbers l
unfolding check_numbers
numbers_ranges l e = rw (e, part_is_drop)

-- n times the same part over whole chunks of a list: `all` over the chunks says whether each is in range.
module _
    {S F : Type 0} {steps : S → Option (Bor (List ℕ)) → S → Type 0} {g : Mut F (Bor (List ℕ) × Unit {0}) Bool} {f : F} (part : List Field) (l : List ℕ)
    {w : ℕ} (some : 0 < w) (ew : total in_numbers part ≡ w) (p : Run steps) (q : IsChunksExactRun p w l)
    (k : (x : Bor (List ℕ)) (b : Bool) (f' : F) → Called g f (x, tt) b f' → (f' ≡ f) × (b ≡ in_range part x.now)) where
  chunk_range : (i at : ℕ) (x : Bor (List ℕ)) → at ≡ i * w → p.at i ≡ Some x → in_range part x.now ≡ in_range part (drop at l)
  chunk_range i at x d e =
      let c = rw e at (q.2 i) in
      same_range part x.now (drop at l) (λ j h.
      c.2.2 j 0 (omega (arith, h, ew, length_fields part)) ∙ rw (← d) (sym (get_or-drop at l j 0)))

  item_at : (i : ℕ) → i < p.len → (x : Bor (List ℕ)) × (p.at i ≡ Some x)
  unfolding YieldsRun
  item_at i h = elim (slice_get_cases p.items i).1 [
    | inl c ↦ (c.0, p.gave.1 i ∙ c.2)
    | inr c ↦ absurd (omega (arith, c.0, p.long))
  ]

  keeps : CallKeepsClosure g f
  keeps a r f' h = (k a.0 r f' h).0

  pub chunks_all : (r : Bool) → MatchBool r (IsTrue p.whole × AllItemsGive p g f true) (AnyItemGives p g f false) → r ≡ in_range (times (length l / w) part) l
  chunks_all true m = all_range part ew (length l / w) l (λ i at h d.
      let x = item_at i (omega (arith, h, q.1 m.0)) in
      sym ((k x.0 true f (rw x.1 at (m.1 keeps i))).1 ∙ chunk_range i at x.0 d x.1))
  chunks_all false m =
      let any = m keeps in
      let x = item_at any.0 any.1 in
      one_range part ew (length l / w) l any.0 (any.0 * w) (omega (arith, any.1, (le-div_iff_mul-le some).1 q.0)) refl
      (sym ((k x.0 false f (rw x.1 at any.2)).1 ∙ chunk_range any.0 (any.0 * w) x.0 refl x.1))
