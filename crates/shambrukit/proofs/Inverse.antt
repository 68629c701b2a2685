-- The user's second demand at the public level: of a sheet or list that no answer of 1 to 12 refuses, unpacking and packing are
-- inverse, and both forms come to the same judged graphs and frame.
use mathlib.Core.Path.{◌≡◌, sym, subst}
use mathlib.Core.List.{List}
use Prim.Native.Nat.{ℕ}
use Rattle.sheet.specs.Answer.{Answer}
use Rattle.sheet.specs.Fields.{Bytes}
use Rattle.sheet.specs.Check.{check_sheet}
use Rattle.sheet.specs.Forms.{packed, unpacked}
use Rattle.sheet.proofs.Forms.{pack_unpacked, unpack_packed}
use Rattle.ready.specs.Graphs.{Judged}
use Rattle.ready.specs.Lines.{ready, Checked, list_lines, sheet_lines}
use Rattle.shambrukit.proofs.Minimum.{checked_on}
use Rattle.shambrukit.proofs.Prepares.{numbers_on}

-- A byte sheet without refusal: its unpacked form has none either, and packs to the very same bytes.
pub unpack_then_pack :
    (s : List ℕ) → Bytes s → (js : List Judged) (F : ℕ) → sheet_lines s (ready js F) → list_lines (unpacked s) (ready js F) × (packed (unpacked s) ≡ s)
unfolding sheet_lines
unpack_then_pack s b js F lines =
    let (on, below) = checked_on (check_sheet s) _ lines in
    (below, pack_unpacked s b on)

-- An unpacked form without refusal: its sheet has none either, and unpacks to the very same numbers.
pub pack_then_unpack :
    (l : List ℕ) (js : List Judged) (F : ℕ) → list_lines l (ready js F) → sheet_lines (packed l) (ready js F) × (unpacked (packed l) ≡ l)
unfolding sheet_lines
pack_then_unpack l js F lines =
    let (back, on, _) = unpack_packed l (numbers_on l js F lines) in
    let below = subst (λ (x : List ℕ). list_lines x (ready js F)) (sym back) lines in
    (subst (λ (a : Answer). Checked a (list_lines (unpacked (packed l))) (ready js F)) (sym on) below, back)
