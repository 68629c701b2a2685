-- 01, demand 2: what reads without refusal packs to the same bytes; what packs without refusal reads back to the same numbers.
-- And the sizes: at most 358 numbers for a graph, 2,865 for a sheet, 5,220 bytes.
use mathlib.Core.Path.{◌≡◌, refl, sym, ap, ◌∙◌}
use mathlib.Core.Bool.{true, ◌&&◌}
use mathlib.Core.List.{List, [], ◌∷◌, ◌++◌}
use Prim.Native.Nat.{ℕ, zero, suc, ◌+◌, ◌*◌, ◌^◌, ◌≤◌, ◌<◌}
use native.Mathlib.Nat.{not-suc-le-zero, le_of_suc-le-suc}
use native.Mathlib.Omega.{arith}
use Rattle.std.specs.Prelude.{Ok}
use lib.Dec.{leb, eqb, lit<}
use lib.ListN.{length, get_or, take, drop, length-append, length-drop, take-append-drop}
use lib.Seq.{get_or-drop, drop_at, drop-cons}
use borrow.Author.Tests.{leb-true, le-leb, eqb-true, eq-eqb}
use Rattle.units.specs.Bounds.{max_graphs}
use Rattle.units.specs.Within.{between}
use Rattle.sheet.specs.Field.{Field}
use Rattle.sheet.specs.declared.Refusal.TheVariants.{Length, Version, Count, Cut, Range}
use Rattle.sheet.specs.Answer.{Answer, unless}
use Rattle.sheet.specs.Layout.{fixed_part, layout, total, in_bytes, in_numbers, largest_graph, largest_graph_bytes, largest_list, largest_sheet}
use Rattle.sheet.specs.Fields.{big_endian, to_bytes, numbers, bytes, in_range, Bytes}
use Rattle.sheet.specs.Check.{actor_count, channel_count, sized, stretch, first_walk, check_graphs, check_sheet, check_list}
use Rattle.sheet.specs.Forms.{layout_of, graphs_numbers, graphs_bytes, unpacked, packed, range_walk, check_numbers}
use Rattle.sheet.proofs.GraphLayout.{fixed_bytes, fixed_numbers, layout_bytes, layout_numbers, layout_length}
use Rattle.sheet.proofs.Walk.{unless_on, then_on, and_true, sized_gives, Passed, graph_passed, walk_on}
use Rattle.sheet.proofs.Fields.{
  bytes_drop,
  bytes_append,
  to_bytes_bytes,
  to_bytes_big_endian,
  big_endian_to_bytes,
  numbers_length,
  bytes_length,
  bytes_bytes,
  bytes_numbers,
  numbers_bytes,
  range_room,
}

-- A walk over no graph has nothing left over.
walk_end : (size : Field → ℕ) (k : ℕ) (s : List ℕ) → first_walk size 0 k s ≡ Ok tt → s ≡ []
unfolding first_walk
walk_end size k [] e = refl
walk_end size k (x ∷ s) e =
    absurd (omega (arith, eqb-true (suc (length s)) 0 (unless_on (eqb (suc (length s)) 0) (Cut k) (Ok tt) e).0))

-- A graph at the start of t has the counts of the graph at the start of s.
abbrev pub Counts : List ℕ → List ℕ → Type 0
Counts s t = (actor_count t ≡ actor_count s) × (channel_count t ≡ channel_count s)

same_stretch : (size : Field → ℕ) (s t : List ℕ) → Counts s t → stretch size t ≡ stretch size s
unfolding stretch
same_stretch size s t c = rw (c.0, c.1)

same_sized : (s t : List ℕ) → Counts s t → sized t ≡ sized s
unfolding sized
same_sized s t c = rw (c.0, c.1)

-- n graphs turned from one form into the other, one after the other: each has the other form's length, and its counts stand in front.
pub record Turning (turn : List Field → List ℕ → List ℕ) (from to : Field → ℕ) (graphs : ℕ → List ℕ → List ℕ) : Type 0 where
  pub none : (s : List ℕ) → graphs 0 s ≡ []
  pub more : (n : ℕ) (s : List ℕ) → graphs (suc n) s ≡ turn (layout_of s) s ++ graphs n (drop (stretch from s) s)
  pub whole : (s : List ℕ) → length (turn (layout_of s) s) ≡ stretch to s
  pub counts : (s rest : List ℕ) → sized s ≡ true → Counts s (turn (layout_of s) s ++ rest)
  pub fixed : (s : List ℕ) → total to (fixed_part 0) ≤ stretch to s

module _ {turn : List Field → List ℕ → List ℕ} {from to : Field → ℕ} {graphs : ℕ → List ℕ → List ℕ} (t : Turning turn from to graphs) where
  -- Turned graphs pass the first walk.
  walk_turned : (n k : ℕ) (s : List ℕ) → first_walk from n k s ≡ Ok tt → first_walk to n k (graphs n s) ≡ Ok tt
  unfolding first_walk
  walk_turned zero k s e = rw (t.none s)
  walk_turned (suc n) k s e =
      let x : List ℕ = turn (layout_of s) s in
      let rest : List ℕ = graphs n (drop (stretch from s) s) in
      let w : Passed from s × (first_walk from n (suc k) (drop (stretch from s) s) ≡ Ok tt) = walk_on from n k s e in
      let c : Counts s (x ++ rest) = t.counts s rest w.0.counts in
      let same : stretch to (x ++ rest) ≡ stretch to s = same_stretch to s (x ++ rest) c in
      let p : Passed to (x ++ rest) = record {
        fixed = omega (arith, length-append x rest, t.whole s, t.fixed s);
        counts = same_sized s (x ++ rest) c ∙ w.0.counts;
        whole = omega (arith, length-append x rest, t.whole s);
      } in
      rw (t.more n s, graph_passed to k (x ++ rest) p, same, drop_at x rest (stretch to s) (t.whole s))
      (walk_turned n (suc k) (drop (stretch from s) s) w.1)

  -- Each of them takes what its counts allow at most.
  turned_length :
      (most : ℕ) → ((s : List ℕ) → sized s ≡ true → stretch to s ≤ most) →
      (n k : ℕ) (s : List ℕ) → first_walk from n k s ≡ Ok tt → length (graphs n s) ≤ n * most
  turned_length most h zero k s e = rw (t.none s) (omega arith)
  turned_length most h (suc n) k s e =
      let after : List ℕ = drop (stretch from s) s in
      let w : Passed from s × (first_walk from n (suc k) after ≡ Ok tt) = walk_on from n k s e in
      rw (t.more n s, length-append, t.whole s) (omega (arith, h s w.0.counts, turned_length most h n (suc k) after w.1))

  -- Turned back they are what they were, if each is.
  turned_back :
      {other : List Field → List ℕ → List ℕ} {back : ℕ → List ℕ → List ℕ} → Turning other to from back → (Good : ℕ → List ℕ → Type 0) →
      ((n : ℕ) (s : List ℕ) → Passed from s → Good (suc n) s →
      ((rest : List ℕ) → other (layout_of s) (turn (layout_of s) s ++ rest) ≡ take (stretch from s) s) × Good n (drop (stretch from s) s)) →
      (n k : ℕ) (s : List ℕ) → first_walk from n k s ≡ Ok tt → Good n s → back n (graphs n s) ≡ s
  turned_back u Good one zero k s e g = rw (t.none s, u.none []) (sym (walk_end from k s e))
  turned_back {back = back} u Good one (suc n) k s e g =
      let after : List ℕ = drop (stretch from s) s in
      let x : List ℕ = turn (layout_of s) s in
      let rest : List ℕ = graphs n after in
      let w : Passed from s × (first_walk from n (suc k) after ≡ Ok tt) = walk_on from n k s e in
      let c : Counts s (x ++ rest) = t.counts s rest w.0.counts in
      let o = one n s w.0 g in
      let b : back n rest ≡ after = turned_back u Good one n (suc k) after w.1 o.1 in
      rw (t.more n s, u.more n (x ++ rest), c.0, c.1, same_stretch to s (x ++ rest) c, drop_at x rest (stretch to s) (t.whole s), b, o.0 rest)
      (take-append-drop (stretch from s) s)

-- Numbers out of bytes.
pub turning_numbers : Turning numbers in_bytes in_numbers graphs_numbers
unfolding graphs_numbers numbers layout fixed_part big_endian stretch
turning_numbers = record {
  none = λ s. refl;
  more = λ n s. refl;
  whole = λ s. numbers_length (layout_of s) s ∙ layout_length (actor_count s) (channel_count s);
  counts = λ s rest e. (omega arith, omega (arith, get_or-drop 1 s 0 0));
  fixed = λ s. omega (arith, fixed_numbers 0, layout_numbers (actor_count s) (channel_count s));
}

-- Bytes out of numbers.
pub turning_bytes : Turning bytes in_numbers in_bytes graphs_bytes
unfolding graphs_bytes bytes layout fixed_part to_bytes stretch
turning_bytes = record {
  none = λ s. refl;
  more = λ n s. refl;
  whole = λ s. bytes_length (layout_of s) s;
  counts = λ s rest e. (omega (arith, (sized_gives s e).actors), omega (arith, (sized_gives s e).channels, get_or-drop 1 s 0 0));
  fixed = λ s. omega (arith, fixed_bytes 0, layout_bytes (actor_count s) (channel_count s));
}

graphs_bytes_bytes : (n : ℕ) (l : List ℕ) → Bytes (graphs_bytes n l)
unfolding graphs_bytes
graphs_bytes_bytes zero l = λ i h. lit< tt
graphs_bytes_bytes (suc n) l =
    let after : List ℕ = drop (stretch in_numbers l) l in
    bytes_append (bytes (layout_of l) l) (graphs_bytes n after) (bytes_bytes (layout_of l) l) (graphs_bytes_bytes n after)

-- The graphs of a byte string, read and written again.
graphs_same_bytes : (n : ℕ) (s : List ℕ) → Bytes s → first_walk in_bytes n 0 s ≡ Ok tt → graphs_bytes n (graphs_numbers n s) ≡ s
unfolding stretch
graphs_same_bytes n s b e =
    turned_back turning_numbers turning_bytes (λ m t. Bytes t)
    (λ m t p c. (λ rest. bytes_numbers (layout_of t) t rest p.whole c, bytes_drop (stretch in_bytes t) t c)) n 0 s e b

-- The graphs of a list of numbers, written and read again.
graphs_same_numbers :
    (n : ℕ) (l : List ℕ) → first_walk in_numbers n 0 l ≡ Ok tt → range_walk n 0 l ≡ Ok tt → graphs_numbers n (graphs_bytes n l) ≡ l
unfolding stretch range_walk
graphs_same_numbers n l e r =
    turned_back turning_bytes turning_numbers (λ m t. (k : ℕ) × (range_walk m k t ≡ Ok tt)) one n 0 l e (0, r)
  where
    one :
        (m : ℕ) (t : List ℕ) → Passed in_numbers t → (k : ℕ) × (range_walk (suc m) k t ≡ Ok tt) →
        ((rest : List ℕ) → numbers (layout_of t) (bytes (layout_of t) t ++ rest) ≡ take (stretch in_numbers t) t)
        × ((k : ℕ) × (range_walk m k (drop (stretch in_numbers t) t) ≡ Ok tt))
    one m t p c =
        let after : List ℕ = drop (stretch in_numbers t) t in
        let u : (in_range (layout_of t) t ≡ true) × (range_walk m (suc c.0) after ≡ Ok tt) =
        unless_on (in_range (layout_of t) t) (Range c.0) (range_walk m (suc c.0) after) c.1 in
        let fields : length (layout_of t) ≡ stretch in_numbers t = layout_length (actor_count t) (channel_count t) in
        let fits = range_room (actor_count t) (channel_count t) t (sized_gives t p.counts).actors u.0 in
        (λ rest. numbers_bytes (layout_of t) t rest (omega (arith, p.whole)) fits ∙ ap (λ (k : ℕ). take k t) fields, (suc c.0, u.1))

-- 01, answers 3 to 5: the graph count is within bounds and the first walk does not refuse.
pub record Graphs (size : Field → ℕ) (n : ℕ) (s : List ℕ) : Type 0 where
  pub some : 1 ≤ n
  pub few : n ≤ max_graphs
  pub walk : first_walk size n 0 s ≡ Ok tt

-- What answers 3 to 5 give where they do not refuse.
pub graphs_on : (size : Field → ℕ) (n : ℕ) (s : List ℕ) → check_graphs size n s ≡ Ok tt → Graphs size n s
unfolding check_graphs
graphs_on size n s e =
    let u : (between 1 max_graphs n ≡ true) × (first_walk size n 0 s ≡ Ok tt) = unless_on (between 1 max_graphs n) Count (first_walk size n 0 s) e in
    let b : (leb 1 n ≡ true) × (leb n max_graphs ≡ true) = and_true _ _ u.0 in
    record { some = leb-true 1 n b.0; few = leb-true n max_graphs b.1; walk = u.1 }

-- Where that is given they do not refuse.
pub on_graphs : (size : Field → ℕ) (n : ℕ) (s : List ℕ) → Graphs size n s → check_graphs size n s ≡ Ok tt
unfolding check_graphs
on_graphs size n s g = rw (le-leb 1 n g.some, le-leb n max_graphs g.few, g.walk)

-- 01, answers 1 to 5.
pub record Sheet (s : List ℕ) : Type 0 where
  pub header : 4 ≤ length s
  pub own : big_endian 2 s ≡ length s
  pub version : get_or s 2 0 ≡ 1
  pub rest : Graphs in_bytes (get_or s 3 0) (drop 4 s)

-- What answers 1 to 5 give where they do not refuse.
pub sheet_on : (s : List ℕ) → check_sheet s ≡ Ok tt → Sheet s
unfolding check_sheet
sheet_on s e =
    let below : Answer = check_graphs in_bytes (get_or s 3 0) (drop 4 s) in
    let u = unless_on (leb 4 (length s) && eqb (big_endian 2 s) (length s)) Length (unless (eqb (get_or s 2 0) 1) Version below) e in
    let b : (leb 4 (length s) ≡ true) × (eqb (big_endian 2 s) (length s) ≡ true) = and_true _ _ u.0 in
    let v = unless_on (eqb (get_or s 2 0) 1) Version below u.1 in
    record {
      header = leb-true 4 (length s) b.0;
      own = eqb-true (big_endian 2 s) (length s) b.1;
      version = eqb-true (get_or s 2 0) 1 v.0;
      rest = graphs_on in_bytes (get_or s 3 0) (drop 4 s) v.1;
    }

-- Where that is given they do not refuse.
pub on_sheet : (s : List ℕ) → Sheet s → check_sheet s ≡ Ok tt
unfolding check_sheet
on_sheet s h =
    rw (le-leb 4 (length s) h.header, eq-eqb (big_endian 2 s) (length s) h.own, eq-eqb (get_or s 2 0) 1 h.version)
    (on_graphs in_bytes (get_or s 3 0) (drop 4 s) h.rest)

-- What answers 3 to 6 give where they do not refuse.
pub numbers_on : (l : List ℕ) → check_numbers l ≡ Ok tt → Graphs in_numbers (get_or l 0 0) (drop 1 l) × (range_walk (get_or l 0 0) 0 (drop 1 l) ≡ Ok tt)
unfolding check_numbers check_list
numbers_on l e =
    let u = then_on (check_list l) (range_walk (get_or l 0 0) 0 (drop 1 l)) e in
    (graphs_on in_numbers (get_or l 0 0) (drop 1 l) u.0, u.1)

-- A graph takes at most 358 numbers.
pub graph_numbers_at_most : (s : List ℕ) → sized s ≡ true → stretch in_numbers s ≤ largest_graph
unfolding stretch
graph_numbers_at_most s e = omega (arith, (sized_gives s e).actors, (sized_gives s e).channels, layout_numbers (actor_count s) (channel_count s))

-- A graph takes at most 652 bytes.
pub graph_bytes_at_most : (s : List ℕ) → sized s ≡ true → stretch in_bytes s ≤ largest_graph_bytes
unfolding stretch
graph_bytes_at_most s e = omega (arith, (sized_gives s e).actors, (sized_gives s e).channels, layout_bytes (actor_count s) (channel_count s))

-- The n graphs of a byte string have at most 358 numbers each.
pub graphs_numbers_at_most : (n k : ℕ) (s : List ℕ) → first_walk in_bytes n k s ≡ Ok tt → length (graphs_numbers n s) ≤ n * largest_graph
graphs_numbers_at_most n k s e = turned_length turning_numbers largest_graph graph_numbers_at_most n k s e

-- The n graphs of a list of numbers have at most 652 bytes each.
pub graphs_bytes_at_most : (n k : ℕ) (l : List ℕ) → first_walk in_numbers n k l ≡ Ok tt → length (graphs_bytes n l) ≤ n * largest_graph_bytes
graphs_bytes_at_most n k l e = turned_length turning_bytes largest_graph_bytes graph_bytes_at_most n k l e

-- An unpacked sheet has at most 2,865 numbers.
pub unpacked_at_most : (s : List ℕ) → check_sheet s ≡ Ok tt → length (unpacked s) ≤ largest_list
unfolding unpacked
unpacked_at_most s e =
    let g : Graphs in_bytes (get_or s 3 0) (drop 4 s) = (sheet_on s e).rest in
    omega (arith, g.few, graphs_numbers_at_most (get_or s 3 0) 0 (drop 4 s) g.walk)

-- A packed sheet is four bytes and those of its graphs.
pub packed_length : (l : List ℕ) → length (packed l) ≡ 4 + length (graphs_bytes (get_or l 0 0) (drop 1 l))
unfolding packed to_bytes
packed_length l = omega arith

-- A packed sheet has at most 5,220 bytes.
pub packed_at_most : (l : List ℕ) → check_numbers l ≡ Ok tt → length (packed l) ≤ largest_sheet
packed_at_most l e =
    let g : Graphs in_numbers (get_or l 0 0) (drop 1 l) = (numbers_on l e).0 in
    omega (arith, g.few, packed_length l, graphs_bytes_at_most (get_or l 0 0) 0 (drop 1 l) g.walk)

-- What reads without refusal is a list that passes the walk.
pub unpacked_checks : (s : List ℕ) → check_sheet s ≡ Ok tt → check_list (unpacked s) ≡ Ok tt
unfolding check_list unpacked
unpacked_checks s e =
    let g : Graphs in_bytes (get_or s 3 0) (drop 4 s) = (sheet_on s e).rest in
    on_graphs in_numbers (get_or s 3 0) (graphs_numbers (get_or s 3 0) (drop 4 s)) (record {
      some = g.some;
      few = g.few;
      walk = walk_turned turning_numbers (get_or s 3 0) 0 (drop 4 s) g.walk;
    })

-- What reads without refusal packs to the same bytes.
pub pack_unpacked : (s : List ℕ) → Bytes s → check_sheet s ≡ Ok tt → packed (unpacked s) ≡ s
unfolding packed unpacked
pack_unpacked s b e =
    let h : Sheet s = sheet_on s e in
    let long : 4 + length (drop 4 s) ≡ big_endian 2 s = omega (arith, length-drop 4 s, h.header, h.own) in
    let third : 2 < length s = omega (arith, h.header) in
    let two : 2 ≤ length s = omega arith in
    let behind : drop 2 s ≡ 1 ∷ get_or s 3 0 ∷ drop 4 s = drop-cons s 2 0 third ∙ (λ i. h.version i ∷ drop-cons s 3 0 h.header i) in
    rw (graphs_same_bytes (get_or s 3 0) (drop 4 s) (bytes_drop 4 s b) h.rest.walk, long, to_bytes_big_endian 2 s two b, ← behind)
    (take-append-drop 2 s)

first_and_rest : (l : List ℕ) → 1 ≤ get_or l 0 0 → get_or l 0 0 ∷ drop 1 l ≡ l
first_and_rest [] h = absurd (not-suc-le-zero h)
first_and_rest (x ∷ l) h = refl

bytes_cons : (x : ℕ) (s : List ℕ) → x < 256 → Bytes s → Bytes (x ∷ s)
bytes_cons x s h b zero k = h
bytes_cons x s h b (suc i) k = b i (le_of_suc-le-suc k)

-- What packs without refusal reads back to the same numbers, and passes answers 1 to 5 as bytes.
pub unpack_packed : (l : List ℕ) → check_numbers l ≡ Ok tt → (unpacked (packed l) ≡ l) × (check_sheet (packed l) ≡ Ok tt) × Bytes (packed l)
unfolding packed unpacked to_bytes
unpack_packed l e =
    let n : ℕ = get_or l 0 0 in
    let body : List ℕ = graphs_bytes n (drop 1 l) in
    let long : ℕ = 4 + length body in
    let g : Graphs in_numbers n (drop 1 l) = (numbers_on l e).0 in
    let short : long < 256 ^ 2 = omega (arith, packed_length l, packed_at_most l e) in
    let count : n < 256 = omega (arith, g.few) in
    let behind : Bytes (1 ∷ n ∷ body) = bytes_cons 1 (n ∷ body) (lit< tt) (bytes_cons n body count (graphs_bytes_bytes n (drop 1 l))) in (
      ap (λ (r : List ℕ). n ∷ r) (graphs_same_numbers n (drop 1 l) g.walk (numbers_on l e).1) ∙ first_and_rest l g.some,
      on_sheet (packed l) (record {
        header = omega (arith, packed_length l);
        own = big_endian_to_bytes 2 long (1 ∷ n ∷ body) short ∙ sym (packed_length l);
        version = refl;
        rest = record {
          some = g.some;
          few = g.few;
          walk = walk_turned turning_bytes n 0 (drop 1 l) g.walk;
        };
      }),
      bytes_append (to_bytes 2 long) (1 ∷ n ∷ body) (to_bytes_bytes 2 long) behind,
    )
