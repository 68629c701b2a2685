-- Past the lines 1 to 12, unpacking and packing refuse only for room.
use mathlib.Core.Path.{◌≡◌, refl}
use mathlib.Core.Bool.{Bool, true, false, cond}
use mathlib.Core.List.{List}
use Prim.Native.Nat.{ℕ, zero, suc, ◌<◌}
use native.Mathlib.Omega.{arith}
use Rattle.std.specs.Prelude.{Ok, Err}
use lib.Dec.{leb}
use lib.ListN.{length, get_or, drop}
use Rattle.sheet.specs.declared.Refusal.TheVariants.{Room}
use Rattle.sheet.specs.Answer.{unless}
use Rattle.sheet.specs.Layout.{in_numbers}
use Rattle.sheet.specs.Fields.{in_range}
use Rattle.sheet.specs.Check.{stretch, check_list, check_sheet}
use Rattle.sheet.specs.Forms.{layout_of, packed, unpacked, range_walk, check_numbers, pack_answer, unpack_answer}
use Rattle.ready.specs.Graphs.{Judged, behind}
use Rattle.ready.specs.Lines.{ready, list_lines, sheet_lines}
use Rattle.shambrukit.specs.Calls.{whole}
use Rattle.shambrukit.proofs.Minimum.{list_gives, checked_on}

ranges_on :
    (n k : ℕ) (l : List ℕ) → ((i : ℕ) → i < n → in_range (layout_of (behind i l)) (behind i l) ≡ true) → range_walk n k l ≡ Ok tt
unfolding range_walk behind
ranges_on zero k l h = refl
ranges_on (suc n) k l h =
    rw (h 0 (omega arith)) (ranges_on n (suc k) (drop (stretch in_numbers l) l) (λ i m. h (suc i) (omega arith)))

-- A list without refusal passes answers 3 to 6.
pub numbers_on : (l : List ℕ) (js : List Judged) (F : ℕ) → list_lines l (ready js F) → check_numbers l ≡ Ok tt
unfolding list_lines check_numbers
numbers_on l js F lines =
    let gives = list_gives l lines in
    rw (checked_on (check_list l) _ lines).0
    (ranges_on (get_or l 0 0) 0 (drop 1 l) (λ i h. (gives.graph i (omega (arith, gives.count))).range))

room_line : (b : Bool) (n : ℕ) → cond b (Ok n) (Err Room) ≡ unless b Room (Ok n)
room_line true n = refl
room_line false n = refl

-- Where nothing is refused, packing refuses only for room.
pub pack_whole :
    (l : List ℕ) (room : ℕ) (js : List Judged) (F : ℕ) → list_lines l (ready js F) →
    pack_answer l room ≡ whole (ready js F) (length (packed l)) room
unfolding pack_answer
pack_whole l room js F lines = rw (numbers_on l js F lines) (room_line (leb (length (packed l)) room) (length (packed l)))

-- So does unpacking, where answers 1 to 5 do not refuse.
pub unpack_whole :
    (s : List ℕ) (room : ℕ) (js : List Judged) (F : ℕ) → check_sheet s ≡ Ok tt → unpack_answer s room ≡ whole (ready js F) (length (unpacked s)) room
unfolding unpack_answer
unpack_whole s room js F on = rw on (room_line (leb (length (unpacked s)) room) (length (unpacked s)))

-- And where nothing is refused.
pub unpack_ready :
    (s : List ℕ) (room : ℕ) (js : List Judged) (F : ℕ) → sheet_lines s (ready js F) →
    unpack_answer s room ≡ whole (ready js F) (length (unpacked s)) room
unfolding sheet_lines
unpack_ready s room js F lines = unpack_whole s room js F (checked_on (check_sheet s) _ lines).0
