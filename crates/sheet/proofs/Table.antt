-- 01, Sheets on both sides of each line: sheets A and B1 in both forms, and answers 1 to 6, computed.
use mathlib.Core.Path.{◌≡◌, refl}
use mathlib.Core.List.{List, [], ◌∷◌, ◌++◌}
use Prim.Native.Nat.{ℕ}
use Rattle.std.specs.Prelude.{Ok, Err}
use lib.ListN.{take, set}
use Rattle.sheet.specs.declared.Refusal.TheVariants.{Length, Version, Count, Cut, Size, Range}
use Rattle.sheet.specs.Layout.{fixed_part, actor_part, channel_part, times, layout, total}
use Rattle.sheet.specs.Fields.{big_endian, to_bytes, numbers, bytes, in_range}
use Rattle.sheet.specs.Check.{sized, stretch, graph_check, first_walk, check_graphs, check_sheet, check_list}
use Rattle.sheet.specs.Forms.{graphs_numbers, graphs_bytes, unpacked, packed, range_walk, check_numbers}

abbrev sheet_A : List ℕ
sheet_A = 0 ∷ 20 ∷ 1 ∷ 1 ∷ 1 ∷ 0 ∷ 0 ∷ 0 ∷ 0 ∷ 0 ∷ 0 ∷ 10 ∷ 0 ∷ 0 ∷ 0 ∷ 10 ∷ 0 ∷ 0 ∷ 0 ∷ 3 ∷ []

abbrev numbers_A : List ℕ
numbers_A = 1 ∷ 1 ∷ 0 ∷ 0 ∷ 0 ∷ 10 ∷ 10 ∷ 3 ∷ []

abbrev sheet_B1 : List ℕ
sheet_B1 =
    0 ∷ 44 ∷ 1 ∷ 1 ∷ 3 ∷ 2 ∷ 0 ∷ 2 ∷ 0 ∷ 0 ∷ 0 ∷ 10 ∷ 0 ∷ 0 ∷ 0 ∷ 8
    ∷ 0 ∷ 0 ∷ 0 ∷ 1 ∷ 0 ∷ 0 ∷ 0 ∷ 2 ∷ 0 ∷ 0 ∷ 0 ∷ 1
    ∷ 0 ∷ 1 ∷ 0 ∷ 3 ∷ 0 ∷ 1 ∷ 0 ∷ 0 ∷ 1 ∷ 2 ∷ 0 ∷ 1 ∷ 0 ∷ 3 ∷ 0 ∷ 0 ∷ []

abbrev numbers_B1 : List ℕ
numbers_B1 = 1 ∷ 3 ∷ 2 ∷ 0 ∷ 2 ∷ 10 ∷ 8 ∷ 1 ∷ 2 ∷ 1 ∷ 0 ∷ 1 ∷ 3 ∷ 1 ∷ 0 ∷ 1 ∷ 2 ∷ 1 ∷ 3 ∷ 0 ∷ []

-- A sheet in both forms: each passes its checks and gives the other.
abbrev Same : List ℕ → List ℕ → Type 0
Same s l = (check_sheet s ≡ Ok tt) × (unpacked s ≡ l) × (check_numbers l ≡ Ok tt) × (packed l ≡ s)

-- A and B1 both ways. Of bytes: A with its last byte cut, version 2, count 0, actor count 0, one byte more, the rest missing.
-- Of numbers: none, count 257, actor count 257, one number more, the rest missing, T 0, B1 with its last token count 65,536.
pub table :
    Same sheet_A numbers_A
    × Same sheet_B1 numbers_B1
    × (check_sheet (take 19 sheet_A) ≡ Err Length)
    × (check_sheet (set sheet_A 2 2) ≡ Err Version)
    × (check_sheet (set sheet_A 3 0) ≡ Err Count)
    × (check_sheet (set sheet_A 4 0) ≡ Err (Size 0))
    × (check_sheet (set (sheet_A ++ 0 ∷ []) 1 21) ≡ Err (Cut 1))
    × (check_sheet (set (take 19 sheet_A) 1 19) ≡ Err (Cut 0))
    × (check_numbers [] ≡ Err Count)
    × (check_numbers (set numbers_A 0 257) ≡ Err Count)
    × (check_numbers (set numbers_A 1 257) ≡ Err (Size 0))
    × (check_numbers (numbers_A ++ 0 ∷ []) ≡ Err (Cut 1))
    × (check_numbers (take 7 numbers_A) ≡ Err (Cut 0))
    × (check_numbers (set numbers_A 5 0) ≡ Err (Range 0))
    × (check_numbers (set numbers_B1 19 65536) ≡ Err (Range 0))
unfolding fixed_part actor_part channel_part times layout total big_endian to_bytes numbers bytes in_range sized stretch graph_check first_walk check_graphs check_sheet check_list graphs_numbers graphs_bytes unpacked packed range_walk check_numbers
table = ((refl, refl, refl, refl), (refl, refl, refl, refl), refl, refl, refl, refl, refl, refl, refl, refl, refl, refl, refl, refl, refl)
