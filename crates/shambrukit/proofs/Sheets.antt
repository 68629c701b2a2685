-- 01, answers 1 to 12: a byte string that answers 1 to 5 do not refuse is asked in its unpacked form, for which 2,865 places are
-- always enough.
use mathlib.Core.Path.{◌≡◌, refl, sym, ◌∙◌, ap, subst}
use mathlib.Core.List.{List, ◌++◌}
use Prim.Native.Nat.{ℕ, ◌≤◌}
use native.Mathlib.Omega.{arith}
use Rattle.std.specs.Prelude.{Result, Ok, Err}
use lib.ListN.{length, take, drop, length-append}
use lib.Seq.{take-append_seam}
use borrow.Author.Tests.{le-leb}
use Rattle.demand.specs.declared.rows.Head.{Head}
use Rattle.demand.specs.declared.rows.Actor.{Actor}
use Rattle.sheet.specs.Answer.{Answer, Reply, written, filled}
use Rattle.sheet.specs.Layout.{largest_list}
use Rattle.sheet.specs.Check.{check_sheet, check_list}
use Rattle.sheet.specs.Forms.{unpacked, unpack_answer}
use Rattle.sheet.proofs.Forms.{unpacked_at_most}
use Rattle.sheet.specs.declared.Refusal.{Refusal}
use Rattle.ready.specs.declared.Ready.{Ready}
use Rattle.ready.specs.Lines.{Outcome, refused, ready, sheet_lines, list_lines}
use Rattle.ready.specs.Rows.{Prepares}
use Rattle.shambrukit.specs.Held.{PreparedBy}
use Rattle.shambrukit.proofs.Minimum.{list_gives}

-- With room for every result, a refusal is that of the answers before 14.
refusal : (a : Answer) (n : ℕ) {r : Refusal} → (a ≡ Ok tt → n ≤ largest_list) → Err r ≡ written a largest_list n → a ≡ Err r
refusal (Ok _) n few e =
    let w : written (Ok tt) largest_list n ≡ Ok n = rw (le-leb n largest_list (few refl)) refl in
    absurd (let z : ◌≡◌ {A = ℕ} 0 1 = cc in omega arith)
refusal (Err r) n few e = cc

-- And what is written is the whole result.
wrote : (a : Answer) (n : ℕ) {m : ℕ} → (a ≡ Ok tt → n ≤ largest_list) → Ok m ≡ written a largest_list n → (a ≡ Ok tt) × (m ≡ n)
wrote (Ok _) n few e =
    let w : written (Ok tt) largest_list n ≡ Ok n = rw (le-leb n largest_list (few refl)) refl in
    (refl, cc)
wrote (Err r) n few e = absurd (let z : ◌≡◌ {A = ℕ} 0 1 = cc in omega arith)

-- What answers 1 to 5 refuse of a byte string, and 3 to 5 of a list, the lines refuse.
pub sheet_refuses : (s : List ℕ) {a : Answer} {r : Refusal} → a ≡ check_sheet s → a ≡ Err r → sheet_lines s (refused r)
unfolding sheet_lines
sheet_refuses s e q = rw (sym e ∙ q) refl

pub list_refuses : (l : List ℕ) {a : Answer} {r : Refusal} → a ≡ check_list l → a ≡ Err r → list_lines l (refused r)
unfolding list_lines
list_refuses l e q = rw (sym e ∙ q) refl

-- The unpacked form of s stands in the first n places, and answers 1 to 5 do not refuse s.
pub record Unpacks (s : List ℕ) (n : ℕ) (numbers : List ℕ) : Type 0 where
  pub on : check_sheet s ≡ Ok tt
  pub there : n ≤ length numbers
  pub form : take n numbers ≡ unpacked s

-- Unpacking into 2,865 places refuses only what answers 1 to 5 refuse.
pub unpack_refuses :
    (s : List ℕ) {room : ℕ} {w : Reply} {r : Refusal} →
    room ≡ largest_list → w ≡ unpack_answer s room → w ≡ Err r → sheet_lines s (refused r)
unfolding unpack_answer sheet_lines
unpack_refuses s {room} {w} {r} full e q =
    let a : Err r ≡ written (check_sheet s) largest_list (length (unpacked s)) =
    sym q ∙ e ∙ ap (λ (k : ℕ). written (check_sheet s) k (length (unpacked s))) full in
    rw (refusal (check_sheet s) (length (unpacked s)) (unpacked_at_most s) a) refl

-- What it does not refuse stands in them.
pub unpack_writes :
    (s before : List ℕ) {after : List ℕ} {w : Reply} {n : ℕ} →
    length before ≡ largest_list → w ≡ unpack_answer s (length before) → after ≡ filled w (unpacked s) before → w ≡ Ok n →
    Unpacks s n after
unfolding unpack_answer
unpack_writes s before {after} {w} {n} full e m q =
    let a : Ok n ≡ written (check_sheet s) largest_list (length (unpacked s)) =
    sym q ∙ e ∙ ap (λ (k : ℕ). written (check_sheet s) k (length (unpacked s))) full in
    let k = wrote (check_sheet s) (length (unpacked s)) (unpacked_at_most s) a in
    let held : after ≡ unpacked s ++ drop n before = m ∙ ap (λ (v : Reply). filled v (unpacked s) before) q in
    record {
      on = k.0;
      there = rw held (omega (arith, k.1, length-append (unpacked s) (drop n before)));
      form = rw (held, k.1) (take-append_seam (unpacked s) _);
    }

-- Answers 3 to 12 of the unpacked form are those of the sheet.
pub sheet_as_list :
    {s : List ℕ} {n : ℕ} {numbers : List ℕ} (o : Outcome) → Unpacks s n numbers → list_lines (take n numbers) o → sheet_lines s o
unfolding sheet_lines
sheet_as_list {s} {n} {numbers} o u h = rw u.on (subst (λ l. list_lines l o) u.form h)

-- What the lines 3 to 12 leave of a list: a refusal, or the judged graphs in their places and their frame.
pub prepared_list :
    (l : List ℕ) (p : Result Ready Refusal) (heads : List Head) (actors : List Actor) →
    Prepares l p heads actors → PreparedBy (list_lines l) p heads actors
prepared_list l (Err r) heads actors lines = lines
prepared_list l (Ok p) heads actors (same, js, lines, count, stands) =
    let gives = list_gives l lines in
    (js, lines, count, stands, (gives.frame, gives.bounded))

-- The same of the sheet whose unpacked form stands there.
pub prepared_sheet :
    {s : List ℕ} {n : ℕ} {numbers : List ℕ} (p : Result Ready Refusal) (heads : List Head) (actors : List Actor) →
    Unpacks s n numbers → Prepares (take n numbers) p heads actors → PreparedBy (sheet_lines s) p heads actors
prepared_sheet (Err r) heads actors u lines = sheet_as_list (refused r) u lines
prepared_sheet (Ok p) heads actors u prepares =
    let (js, lines, count, stands, framed) = prepared_list _ (Ok p) heads actors prepares in
    (js, sheet_as_list (ready js p.frame.n) u lines, count, stands, framed)
