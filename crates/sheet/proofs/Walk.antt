-- 01, Order, first walk: what a graph that passes it gives, and the walk turn by turn.
use mathlib.Core.Path.{◌≡◌, refl, sym, ◌∙◌}
use mathlib.Core.Bool.{Bool, true, false, ◌&&◌}
use mathlib.Core.List.{List, [], ◌∷◌}
use Prim.Native.Nat.{ℕ, zero, suc, ◌+◌, ◌-◌, ◌≤◌, ◌<◌}
use native.Mathlib.Numerals.{add-one}
use native.Mathlib.Omega.{arith}
use Rattle.std.specs.Prelude.{Ok, Err}
use lib.Dec.{leb, eqb}
use lib.ListN.{length, take, drop, length-drop}
use lib.Seq.{take_all}
use borrow.Author.Tests.{leb-true, le-leb, lt-leb, eq-eqb, ne_eqb}
use Rattle.units.specs.Bounds.{max_actors, max_channels}
use Rattle.units.specs.Within.{between}
use Rattle.sheet.specs.declared.Refusal.{Refusal}
use Rattle.sheet.specs.declared.Refusal.TheVariants.{Count, Cut, Size}
use Rattle.sheet.specs.Field.{Field}
use Rattle.sheet.specs.Answer.{Answer, unless, then}
use Rattle.sheet.specs.Layout.{fixed_part, layout, total}
use Rattle.sheet.specs.Check.{actor_count, channel_count, sized, stretch, graph_check, first_walk, check_graphs}

-- The part of s from place `at` to its end is s without its first `at` places.
pub part_is_drop : (s : List ℕ) (at : ℕ) → take (length s - at) (drop at s) ≡ drop at s
part_is_drop s at = take_all (length s - at) (drop at s) (omega (arith, length-drop at s))

-- Both of two tests that hold together hold.
pub and_true : (b d : Bool) → (b && d) ≡ true → (b ≡ true) × (d ≡ true)
and_true true d e = (refl, e)
and_true false d e = absurd (let z : ◌≡◌ {A = ℕ} 0 1 = cc in omega arith)

-- A line that does not refuse: what it asks for holds, and the lines below do not refuse.
pub unless_on : (b : Bool) (r : Refusal) (below : Answer) → unless b r below ≡ Ok tt → (b ≡ true) × (below ≡ Ok tt)
unless_on true r below e = (refl, e)
unless_on false r below e = absurd (let z : ◌≡◌ {A = ℕ} 0 1 = cc in omega arith)

-- Two parts of the table that do not refuse.
pub then_on : (above below : Answer) → then above below ≡ Ok tt → (above ≡ Ok tt) × (below ≡ Ok tt)
then_on (Ok _) below e = (refl, e)
then_on (Err r) below e = absurd (let z : ◌≡◌ {A = ℕ} 0 1 = cc in omega arith)

-- The counts at the start of s are within their bounds.
pub record Sized (s : List ℕ) : Type 0 where
  pub some : 1 ≤ actor_count s
  pub actors : actor_count s ≤ max_actors
  pub channels : channel_count s ≤ max_channels

-- Answer 5's test gives that.
pub sized_gives : (s : List ℕ) → sized s ≡ true → Sized s
unfolding sized
sized_gives s e =
    let p : (between 1 max_actors (actor_count s) ≡ true) × (between 0 max_channels (channel_count s) ≡ true) = and_true _ _ e in
    let q : (leb 1 (actor_count s) ≡ true) × (leb (actor_count s) max_actors ≡ true) = and_true _ _ p.0 in
    let r : (leb 0 (channel_count s) ≡ true) × (leb (channel_count s) max_channels ≡ true) = and_true _ _ p.1 in
    record { some = leb-true _ _ q.0; actors = leb-true _ _ q.1; channels = leb-true _ _ r.1 }

-- A graph that passes the first walk at the start of s.
pub record Passed (size : Field → ℕ) (s : List ℕ) : Type 0 where
  pub fixed : total size (fixed_part 0) ≤ length s
  pub counts : sized s ≡ true
  pub whole : stretch size s ≤ length s

-- Its counts are within their bounds.
pub passed_bounds :
    {size : Field → ℕ} {s : List ℕ} {a c : ℕ} → Passed size s → a ≡ actor_count s → c ≡ channel_count s → (a ≤ max_actors) × (c ≤ max_channels)
passed_bounds {s = s} p d e = let z = sized_gives s p.counts in (omega (arith, z.actors), omega (arith, z.channels))

-- A graph passes where its check does not refuse.
pub graph_on : (size : Field → ℕ) (k : ℕ) (s : List ℕ) → graph_check size k s ≡ Ok tt → Passed size s
unfolding graph_check
graph_on size k s e =
    let fixed-test : Bool = leb (total size (fixed_part 0)) (length s) in
    let whole-test : Bool = leb (stretch size s) (length s) in
    let p = unless_on fixed-test (Cut k) (unless (sized s) (Size k) (unless whole-test (Cut k) (Ok tt))) e in
    let q = unless_on (sized s) (Size k) (unless whole-test (Cut k) (Ok tt)) p.1 in
    let r = unless_on whole-test (Cut k) (Ok tt) q.1 in
    record { fixed = leb-true _ _ p.0; counts = q.0; whole = leb-true _ _ r.0 }

-- Where a graph passes, its check does not refuse.
pub graph_passed : (size : Field → ℕ) (k : ℕ) (s : List ℕ) → Passed size s → graph_check size k s ≡ Ok tt
unfolding graph_check
graph_passed size k s p = rw (le-leb _ _ p.fixed, p.counts, le-leb _ _ p.whole)

-- Counts that answer 5's test lets pass are within their bounds.
pub told_bounds :
    (a c : ℕ) {b : Bool} → b ≡ (between 1 max_actors a && between 0 max_channels c) → b ≡ true → (a ≤ max_actors) × (c ≤ max_channels)
unfolding sized
told_bounds a c e d = let z = sized_gives (a ∷ c ∷ []) (sym e ∙ d) in (z.actors, z.channels)

-- A graph's check, where the fixed part takes up `fixed` and answer 5's test says b.
module _ (size : Field → ℕ) {fixed : ℕ} (f : total size (fixed_part 0) ≡ fixed) (k : ℕ) (s : List ℕ) where
  -- A fixed part that is cut is refused.
  pub told_cut : length s < fixed → Err (Cut k) ≡ graph_check size k s
  unfolding graph_check
  told_cut h = rw (f, lt-leb fixed (length s) h)

  module _ {b : Bool} (h : fixed ≤ length s) (e : b ≡ (between 1 max_actors (actor_count s) && between 0 max_channels (channel_count s))) where
    -- Then counts out of bounds are refused.
    pub told_size : b ≡ false → Err (Size k) ≡ graph_check size k s
    unfolding graph_check sized
    told_size d = rw (f, le-leb fixed (length s) h, ← e, d)

    module _ {all : ℕ} (d : b ≡ true) (q : all ≡ total size (layout (actor_count s) (channel_count s))) where
      -- Then a rest that is cut is refused.
      pub told_short : length s < all → Err (Cut k) ≡ graph_check size k s
      unfolding graph_check sized stretch
      told_short l = rw (f, le-leb fixed (length s) h, ← e, d, ← q, lt-leb all (length s) l)

      -- A graph that is there is not.
      pub told_on : all ≤ length s → Ok tt ≡ graph_check size k s
      unfolding graph_check sized stretch
      told_on l = rw (f, le-leb fixed (length s) h, ← e, d, ← q, le-leb all (length s) l)

-- The walk does not refuse: its first graph passes, and the walk behind it does not refuse.
pub walk_on :
    (size : Field → ℕ) (n k : ℕ) (s : List ℕ) → first_walk size (suc n) k s ≡ Ok tt →
    Passed size s × (first_walk size n (suc k) (drop (stretch size s) s) ≡ Ok tt)
unfolding first_walk
walk_on size n k s e =
    let p = then_on (graph_check size k s) (first_walk size n (suc k) (drop (stretch size s) s)) e in
    (graph_on size k s p.0, p.1)

-- Whether the walk refuses does not hang on the number of its first graph.
pub walk_on_any : (size : Field → ℕ) (n k j : ℕ) (s : List ℕ) → first_walk size n k s ≡ Ok tt → first_walk size n j s ≡ Ok tt
unfolding first_walk
walk_on_any size zero k j s e = rw (unless_on (eqb (length s) 0) (Cut k) (Ok tt) e).0
walk_on_any size (suc n) k j s e =
    let p = walk_on size n k s e in
    rw (graph_passed size j s p.0, walk_on_any size n (suc k) (suc j) (drop (stretch size s) s) p.1)

-- The first walk over the n graphs of s has come to graph k, and t is left: the walk over t decides.
pub record Left (size : Field → ℕ) (n : ℕ) (s : List ℕ) (k : ℕ) (t : List ℕ) : Type 0 where
  pub is : first_walk size (n - k) k t ≡ first_walk size n 0 s

module _ {size : Field → ℕ} {n : ℕ} {s : List ℕ} {k : ℕ} {t : List ℕ} (w : Left size n s k t) where
  left_step : k < n → then (graph_check size k t) (first_walk size (n - (k + 1)) (k + 1) (drop (stretch size t) t)) ≡ first_walk size n 0 s
  unfolding first_walk
  left_step h =
      let e : n - k ≡ suc (n - (k + 1)) = omega arith in
      rw (e, ← add-one k) at w.is

  -- A graph that is refused ends the walk with that refusal.
  pub left_no : {r : Refusal} → k < n → graph_check size k t ≡ Err r → Err r ≡ first_walk size n 0 s
  left_no h e = rw e at (left_step h)

  -- Past a graph that passes the walk goes on.
  pub left_turn : k < n → Passed size t → Left size n s (k + 1) (drop (stretch size t) t)
  left_turn h p = record { is = rw (graph_passed size k t p) at (left_step h) }

  -- A walk that refuses no graph finds each of them passing.
  pub left_on : k < n → first_walk size n 0 s ≡ Ok tt → Passed size t
  left_on h e = graph_on size k t (then_on (graph_check size k t) _ (left_step h ∙ e)).0

  left_last : n ≤ k → k ≤ n → unless (eqb (length t) 0) (Cut n) (Ok tt) ≡ first_walk size n 0 s
  unfolding first_walk
  left_last h l =
      let e : n - k ≡ 0 = omega arith in
      let d : k ≡ n = omega arith in
      rw (e, d) at w.is

  -- After the last graph something is left over.
  pub left_over : n ≤ k → k ≤ n → 0 < length t → Err (Cut n) ≡ first_walk size n 0 s
  left_over h l m = rw (ne_eqb (length t) 0 (omega arith)) at (left_last h l)

  -- After the last graph nothing is left over.
  pub left_end : n ≤ k → k ≤ n → length t ≤ 0 → Ok tt ≡ first_walk size n 0 s
  left_end h l m = rw (eq-eqb (length t) 0 (omega arith)) at (left_last h l)

-- A graph count of 0 is refused.
pub graphs_none : (size : Field → ℕ) (n : ℕ) (s : List ℕ) → n < 1 → check_graphs size n s ≡ Err Count
unfolding check_graphs
graphs_none size n s h = rw (lt-leb _ _ h)
