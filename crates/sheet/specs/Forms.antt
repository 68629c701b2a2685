-- 01, The sheet, byte by byte: from the byte string to the unpacked form and back, and answer 6 over all graphs.
use Rattle.std.specs.Prelude.{List, [], ◌∷◌, ◌++◌, ℕ, zero, suc, ◌+◌, length, get_or, drop, Ok}
use Rattle.sheet.specs.Field.{Field}
use Rattle.sheet.specs.declared.Refusal.TheVariants.{Range}
use Rattle.sheet.specs.Answer.{Answer, Reply, unless, then, written}
use Rattle.sheet.specs.Layout.{layout, in_bytes, in_numbers}
use Rattle.sheet.specs.Fields.{to_bytes, numbers, bytes, in_range}
use Rattle.sheet.specs.Check.{actor_count, channel_count, stretch, check_sheet, check_list}

abbrev pub layout_of : List ℕ → List Field
layout_of s = layout (actor_count s) (channel_count s)

-- The numbers of n graphs from the start of the bytes s.
unfoldable pub graphs_numbers : ℕ → List ℕ → List ℕ
graphs_numbers zero s = []
graphs_numbers (suc n) s = numbers (layout_of s) s ++ graphs_numbers n (drop (stretch in_bytes s) s)

-- The bytes of n graphs from the start of the numbers l.
unfoldable pub graphs_bytes : ℕ → List ℕ → List ℕ
graphs_bytes zero l = []
graphs_bytes (suc n) l = bytes (layout_of l) l ++ graphs_bytes n (drop (stretch in_numbers l) l)

-- 01: the unpacked form is the graph count and the same fields in the same order, without length and version.
unfoldable pub unpacked : List ℕ → List ℕ
unpacked s = get_or s 3 0 ∷ graphs_numbers (get_or s 3 0) (drop 4 s)

-- 01: the sheet is its own length, version 1, the graph count and the graphs.
unfoldable pub packed : List ℕ → List ℕ
packed l =
    let body = graphs_bytes (get_or l 0 0) (drop 1 l) in
    to_bytes 2 (4 + length body) ++ 1 ∷ get_or l 0 0 ∷ body

-- 01, answer 6: each of n graphs is in range, the next one numbered k.
unfoldable pub range_walk : ℕ → ℕ → List ℕ → Answer
range_walk zero k l = Ok tt
range_walk (suc n) k l = unless (in_range (layout_of l) l) (Range k) (range_walk n (suc k) (drop (stretch in_numbers l) l))

-- 01, answers 3 to 6 for the unpacked form.
unfoldable pub check_numbers : List ℕ → Answer
check_numbers l = then (check_list l) (range_walk (get_or l 0 0) 0 (drop 1 l))

-- Unpacking a byte string into `room` numbers: answers 1 to 5 and 14, and how many numbers there are.
unfoldable pub unpack_answer : List ℕ → ℕ → Reply
unpack_answer s room = written (check_sheet s) room (length (unpacked s))

-- Packing an unpacked form into `room` bytes: answers 3 to 6 and 14, and how many bytes there are.
unfoldable pub pack_answer : List ℕ → ℕ → Reply
pack_answer l room = written (check_numbers l) room (length (packed l))
