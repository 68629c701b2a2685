-- 01, The sheet, byte by byte: unpacking, step by step.
use mathlib.Core.Path.{◌≡◌, sym}
use mathlib.Core.List.{List, ◌++◌}
use Prim.Native.Nat.{ℕ, ◌+◌, ◌-◌, ◌≤◌, ◌<◌}
use native.Mathlib.Omega.{arith}
use Rattle.std.specs.Prelude.{Ok, Err}
use lib.ListN.{length, get_or, take, drop, set, length-set, length-drop}
use borrow.Author.Tests.{le-leb, lt-leb}
use borrow.Rule.Slice.PartMut.{put_mid, mid_of}
use Rattle.sheet.specs.declared.Refusal.{Refusal}
use Rattle.sheet.specs.declared.Refusal.TheVariants.{Room}
use Rattle.sheet.specs.Check.{check_sheet}
use Rattle.sheet.specs.Forms.{graphs_numbers, unpacked, unpack_answer}
use Rattle.sheet.proofs.Walk.{part_is_drop}
use Rattle.sheet.proofs.Filling.{filling_start, filling_set, filling_last}

-- The unpacked form is the graph count and the numbers of the graphs.
unpacked_length : (s : List ℕ) → length (unpacked s) ≡ 1 + length (graphs_numbers (get_or s 3 0) (drop 4 s))
unfolding unpacked
unpacked_length s = omega arith

-- A sheet that answers 1 to 5 refuse is not unpacked.
pub unpack_refused : (s : List ℕ) (room : ℕ) {r : Refusal} → check_sheet s ≡ Err r → Err r ≡ unpack_answer s room
unfolding unpack_answer
unpack_refused s room e = rw e

module _ (s : List ℕ) {m : ℕ} (on : check_sheet s ≡ Ok tt) (count : m ≡ length (graphs_numbers (get_or s 3 0) (take (length s - 4) (drop 4 s)))) where
  -- The graph count is one number more.
  pub unpack_count : 1 + m ≡ length (unpacked s)
  unpack_count = rw (count, part_is_drop s 4) (sym (unpacked_length s))

  -- 01, answer 14: the list has no room for the unpacked form.
  pub unpack_room : (room : ℕ) → room < 1 + m → Err Room ≡ unpack_answer s room
  unfolding unpack_answer
  unpack_room room h = rw (on, ← unpack_count, lt-leb (1 + m) room h)

  -- Behind the graph count there is room for the numbers of the graphs.
  pub unpack_behind :
      (before : List ℕ) → 1 + m ≤ length before →
      let counted = set before 0 (get_or s 3 0) in
      length (graphs_numbers (get_or s 3 0) (take (length s - 4) (drop 4 s))) ≤ length (mid_of 1 (length counted - 1) counted)
  unpack_behind before h =
      let counted : List ℕ = set before 0 (get_or s 3 0) in
      rw (← count, part_is_drop counted 1, length-drop 1 counted, length-set before 0 (get_or s 3 0)) (omega arith)

  -- The list has room for the unpacked form.
  pub unpack_wrote : (room : ℕ) → 1 + m ≤ room → Ok (1 + m) ≡ unpack_answer s room
  unfolding unpack_answer
  unpack_wrote room h = rw (on, ← unpack_count, le-leb (1 + m) room h)

  -- The graph count, and the numbers of the graphs behind it, are the unpacked form.
  pub unpack_memory :
      (before : List ℕ) {ys : List ℕ} → 1 + m ≤ length before →
      let counted = set before 0 (get_or s 3 0) in
      let t = take (length s - 4) (drop 4 s) in
      ys ≡ graphs_numbers (get_or s 3 0) t ++ drop (length (graphs_numbers (get_or s 3 0) t)) (mid_of 1 (length counted - 1) counted) →
      put_mid 1 (length counted - 1) counted ys ≡ unpacked s ++ drop (1 + m) before
  unfolding unpacked
  unpack_memory before room e =
      rw unpack_count
      (filling_last (graphs_numbers (get_or s 3 0) (drop 4 s)) (filling_set (filling_start before (unpacked s)) (omega arith))
      (rw (part_is_drop s 4) at e))
