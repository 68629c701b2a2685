-- 01, The sheet, byte by byte: packing, step by step.
use mathlib.Core.Path.{◌≡◌, ◌∙◌, ap}
use mathlib.Core.List.{List, ◌∷◌, ◌++◌}
use Prim.Native.Nat.{ℕ, ◌+◌, ◌-◌, ◌<◌, ◌≤◌}
use native.Mathlib.Omega.{arith}
use Rattle.std.specs.Prelude.{Ok, Err}
use lib.ListN.{length, drop, set, get_or, length-append, length-drop}
use lib.Seq.{sets, sets-eq}
use borrow.Author.Tests.{le-leb, lt-leb}
use borrow.Rule.Slice.PartMut.{put_mid, mid_of}
use Rattle.sheet.specs.declared.Refusal.{Refusal}
use Rattle.sheet.specs.declared.Refusal.TheVariants.{Room}
use Rattle.sheet.specs.Layout.{largest_sheet}
use Rattle.sheet.specs.Fields.{to_bytes}
use Rattle.sheet.specs.Forms.{graphs_bytes, packed, check_numbers, pack_answer}
use Rattle.sheet.proofs.Fields.{to_bytes_length}
use Rattle.sheet.proofs.Filling.{Filling, filling_set, filling_last}
use Rattle.sheet.proofs.Forms.{packed_length, packed_at_most}
use Rattle.sheet.proofs.Ranges.{next_of}
use Rattle.sheet.proofs.Walk.{part_is_drop}

-- A refusal of answers 3 to 6 stands.
pub pack_no : (l : List ℕ) (r : Refusal) (room : ℕ) → check_numbers l ≡ Err r → Err r ≡ pack_answer l room
unfolding pack_answer
pack_no l r room e = rw e

-- The bytes of all graphs of an unpacked form.
abbrev pub body : List ℕ → List ℕ
body l = graphs_bytes (get_or l 0 0) (next_of l 1)

-- An unpacked form that passes answers 3 to 6, whose sheet has `all` bytes.
pub record Counted (l : List ℕ) (all : ℕ) : Type 0 where
  pub on : check_numbers l ≡ Ok tt
  pub count : all ≡ 4 + length (body l)

module _ {l : List ℕ} {all : ℕ} (q : Counted l all) where
  packed_all : length (packed l) ≡ all
  packed_all = packed_length l ∙ rw (q.count, part_is_drop)

  -- A sheet has at most 5,220 bytes.
  pub pack_small : all ≤ largest_sheet
  pack_small = omega (arith, packed_all, packed_at_most l q.on)

  -- With too little room for all bytes the answer is 14.
  pub pack_room : (room : ℕ) → room < all → Err Room ≡ pack_answer l room
  unfolding pack_answer
  pack_room room h = rw (q.on, packed_all, lt-leb _ _ h)

  -- With room for all bytes they are written.
  pub pack_wrote : (room : ℕ) → all ≤ room → Ok all ≡ pack_answer l room
  unfolding pack_answer
  pack_wrote room h = rw (q.on, packed_all, le-leb _ _ h)

  -- The length, the version and the graph count are written, the graphs are to come.
  pub pack_head :
      (before out : List ℕ) → all ≤ length before → out ≡ sets before 0 (to_bytes 2 all) →
      Filling before (set (set out 2 1) 3 (get_or l 0 0)) (packed l) (body l) 4
  unfolding packed to_bytes
  pack_head before out h w =
      let start : Filling before out (packed l) (1 ∷ get_or l 0 0 ∷ body l) 2 =
      record { done = to_bytes 2 all; wrote = to_bytes_length 2 all; whole = rw (q.count, part_is_drop); is = w ∙ sets-eq (to_bytes 2 all) before 0 (omega (arith, q.count)) } in
      filling_set (filling_set start (omega (arith, q.count))) (omega (arith, q.count))

  -- With the graphs the sheet stands in the first places, and the memory keeps its length.
  pub pack_graphs :
      {before now ys : List ℕ} → all ≤ length before → Filling before now (packed l) (body l) 4 →
      ys ≡ body l ++ drop (length (body l)) (mid_of 4 (length now - 4) now) →
      (length (put_mid 4 (length now - 4) now ys) ≡ length before) × (put_mid 4 (length now - 4) now ys ≡ packed l ++ drop all before)
  pack_graphs {before} {now} {ys} h f w =
      let e : put_mid 4 (length now - 4) now ys ≡ packed l ++ drop all before = rw packed_all at (filling_last (body l) f w) in
      (ap length e ∙ simp (length-append, length-drop, packed_all) (omega arith), e)
