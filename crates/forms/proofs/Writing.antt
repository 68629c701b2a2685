-- 01, The sheet, byte by byte: the graphs of one form are made of those of the other, counted or written graph by graph.
use mathlib.Core.Path.{◌≡◌}
use mathlib.Core.List.{List, ◌++◌}
use Prim.Native.Nat.{ℕ, suc, ◌+◌, ◌-◌, ◌*◌, ◌≤◌, ◌<◌}
use native.Mathlib.Nat.{mul-le-mul}
use native.Mathlib.Omega.{arith}
use lib.ListN.{length, drop, length-append}
use borrow.Rule.Slice.PartMut.{put_mid, mid_of}
use Rattle.sheet.specs.Field.{Field}
use Rattle.sheet.specs.Layout.{largest_graph_bytes}
use Rattle.sheet.specs.Sizes.{Sizes}
use Rattle.sheet.specs.Check.{actor_count, channel_count, stretch}
use Rattle.sheet.proofs.GraphLayout.{layout_is}
use Rattle.sheet.specs.Forms.{layout_of}
use Rattle.sheet.proofs.Walk.{Sized, Left, left_turn, Passed}
use Rattle.sheet.proofs.Filling.{Filling, filling_part, filling_inside}
use Rattle.sheet.proofs.Parts.{Makes, OneByOne}

-- No graph makes more than the largest one does in bytes.
pub small_room :
    {size : Field → ℕ} {f a c : ℕ} → Sizes size f a c → (2 ≤ f) × (f ≤ 12) × (a ≤ 4) × (c ≤ 8) → {s : List ℕ} → Sized s → stretch size s ≤ largest_graph_bytes
unfolding stretch
small_room {size} {f} {a} {c} z h {s} k =
    omega (arith, h, k.actors, k.channels, layout_is z (actor_count s) (channel_count s), mul-le-mul k.actors h.2, mul-le-mul k.channels h.3)

-- The n graphs of s, counted up to graph k, where t is left: those before it make `sum`, and none makes more than `most`.
pub record Counting {A : Type 0} (from : Field → ℕ) (graphs : ℕ → List ℕ → List A) (most n : ℕ) (s : List ℕ) (k : ℕ) (t : List ℕ) (sum : ℕ) : Type 0 where
  pub walk : Left from n s k t
  pub small : sum ≤ most * k
  pub rest : sum + length (graphs (n - k) t) ≡ length (graphs n s)

-- The n graphs of s, written up to graph k, where t is left; that goes to place `out`. There is room for all of them.
pub record Writing {A : Type 0} (from : Field → ℕ) (graphs : ℕ → List ℕ → List A) (n : ℕ) (s : List ℕ) (before now : List A) (k : ℕ) (t : List ℕ) (out : ℕ) : Type 0 where
  pub walk : Left from n s k t
  pub room : length (graphs n s) ≤ length before
  pub filling : Filling before now (graphs n s) (graphs (n - k) t) out

module _
    {A : Type 0} {write : List Field → List ℕ → List A} {from to : Field → ℕ} {graphs : ℕ → List ℕ → List A} (makes : Makes write from to)
    (one : OneByOne write from graphs) where
  graph_length : (t : List ℕ) → length (write (layout_of t) t) ≡ stretch to t
  unfolding stretch
  graph_length t = makes.count (layout_of t) t

  -- From graph k on: that graph, then those behind it.
  graphs_next : (n k : ℕ) (t : List ℕ) → k < n → graphs (n - k) t ≡ write (layout_of t) t ++ graphs (n - (k + 1)) (drop (stretch from t) t)
  graphs_next n k t h =
      let e : n - k ≡ suc (n - (k + 1)) = omega arith in
      rw (e, one.more (n - (k + 1)) t)

  length_next : (n k : ℕ) (t : List ℕ) → k < n → length (graphs (n - k) t) ≡ stretch to t + length (graphs (n - (k + 1)) (drop (stretch from t) t))
  length_next n k t h = rw (graphs_next n k t h, length-append, graph_length t)

  -- One graph more is counted.
  pub counting_turn :
      {n : ℕ} {s : List ℕ} {k : ℕ} {t : List ℕ} {most sum b : ℕ} → Counting from graphs most n s k t sum → Passed from t → k < n → b ≡ stretch to t → b ≤ most →
      Counting from graphs most n s (k + 1) (drop (stretch from t) t) (sum + b)
  counting_turn {n} {s} {k} {t} q p h e l =
      record { walk = left_turn q.walk h p; small = omega (arith, q.small); rest = omega (arith, q.rest, length_next n k t h) }

  module _ {n : ℕ} {s : List ℕ} {k : ℕ} {t : List ℕ} {before now : List A} {out : ℕ} (g : Writing from graphs n s before now k t out) where
    -- There is room for the next graph.
    pub writing_room : k < n → (length now ≡ length before) × (out + stretch to t ≤ length now)
    writing_room h =
        let p = filling_inside g.filling g.room in
        (p.0, omega (arith, p.0, p.1, length_next n k t h))

    -- The next graph is written.
    pub writing_turn :
        {ys : List A} {b : ℕ} → k < n → Passed from t → ys ≡ write (layout_of t) t ++ drop (stretch to t) (mid_of out (length now - out) now) → b ≡ stretch to t →
        Writing from graphs n s before (put_mid out (length now - out) now ys) (k + 1) (drop (stretch from t) t) (out + b)
    writing_turn h p e q =
        record {
          walk = left_turn g.walk h p;
          room = g.room;
          filling = rw (q, ← graph_length t) (filling_part (write (layout_of t) t) (rw (graphs_next n k t h) at g.filling) (rw (← graph_length t) at e));
        }
