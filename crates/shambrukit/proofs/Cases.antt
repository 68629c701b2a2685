-- 01, Sheets on both sides of each line: the sheets marked P, bytes in and five numbers out, with the numbers of C1. They stand in
-- one table and are proved by one statement, which computes.
use mathlib.Core.Path.{◌≡◌, refl, sym}
use mathlib.Core.List.{List, [], ◌∷◌, map}
use Prim.Native.Nat.{ℕ}
use Rattle.edf.specs.Tasks.{tasks, tasks_to, actor_tasks, task_numbers}
use Rattle.sheet.specs.Fields.{to_bytes}
use Rattle.shambrukit.specs.declared.Verdict.{Verdict}
use Rattle.ready.specs.Lines.{Outcome}
use Rattle.shambrukit.specs.Verdict.{row_of, SheetVerdict}
use Rattle.shambrukit.specs.Calls.{SheetTold, reply_of, demand_told, fewest_told, numbers_of, skip_numbers, task_list}
use Rattle.shambrukit.proofs.Exists.{sheet_exists, verdict_exists}

-- A row says which five numbers the judge gives for the bytes, or which numbers a call gives that goes by the outcome.
pub data Row : Type 0 where
  verdict : (bytes numbers : List ℕ) → Row
  told : (bytes : List ℕ) (call : Outcome → List ℕ) (numbers : List ℕ) → Row

-- What a row claims.
unfoldable pub Holds : Row → Type 0
Holds (verdict s n) = (v : Verdict) × SheetVerdict s v × (row_of v ≡ n)
Holds (told s call n) = SheetTold s call n

-- Every row of the list holds.
unfoldable pub Every : List Row → Type 0
unfolding Holds
Every [] = Unit {0}
Every (r ∷ rows) = Holds r × Every rows

-- The numbers that a row's bytes give, and those that the row says.
abbrev found : Row → List ℕ
found (verdict s n) = row_of (verdict_exists s).0
found (told s call n) = call (sheet_exists s).0

abbrev said : Row → List ℕ
said (verdict s n) = n
said (told s call n) = n

holds : (r : Row) → found r ≡ said r → Holds r
unfolding Holds
holds (verdict s n) e = ((verdict_exists s).0, (verdict_exists s).1, e)
holds (told s call n) e = ((sheet_exists s).0, (sheet_exists s).1, sym e)

every : (rows : List Row) → map found rows ≡ map said rows → Every rows
unfolding Every
every [] e = tt
every (r ∷ rows) e = (holds r (cc), every rows (cc))

-- A sheet of n bytes, written as document 01 writes A's.
abbrev sheet : (n bytes : ℕ) → List ℕ
sheet = to_bytes

abbrev C1 : List ℕ
C1 = sheet 44 0x00_2C_01_01_03_02_00_02_00_00_00_08_00_00_00_04_00_00_00_01_00_00_00_02_00_00_00_01_00_01_00_03_00_01_00_00_01_02_00_01_00_03_00_02

-- A, B1, B2, B3, C1, C2, C3, E1, E2, F1, F2 and G2; then of C1 the skips, the fewest firings of actor 1 for K = 0, 1, 2, the demand
-- at 3, 4, 11, 12 and the task list.
unfoldable pub table : List Row
table =
    verdict (sheet 20 0x00_14_01_01_01_00_00_00_00_00_00_0A_00_00_00_0A_00_00_00_03) (0 ∷ 0 ∷ 3 ∷ 10 ∷ 0 ∷ [])
    ∷ verdict (sheet 44 0x00_2C_01_01_03_02_00_02_00_00_00_0A_00_00_00_08_00_00_00_01_00_00_00_02_00_00_00_01_00_01_00_03_00_01_00_00_01_02_00_01_00_03_00_00) (0 ∷ 0 ∷ 8 ∷ 10 ∷ 0 ∷ [])
    ∷ verdict (sheet 44 0x00_2C_01_01_03_02_00_02_00_00_00_0A_00_00_00_07_00_00_00_01_00_00_00_02_00_00_00_01_00_01_00_03_00_01_00_00_01_02_00_01_00_03_00_00) (21 ∷ 0 ∷ 8 ∷ 10 ∷ 7 ∷ [])
    ∷ verdict (sheet 44 0x00_2C_01_01_03_02_00_02_00_00_00_07_00_00_00_08_00_00_00_01_00_00_00_02_00_00_00_01_00_01_00_03_00_01_00_00_01_02_00_01_00_03_00_00) (20 ∷ 0 ∷ 8 ∷ 7 ∷ 0 ∷ [])
    ∷ verdict C1 (0 ∷ 0 ∷ 8 ∷ 8 ∷ 0 ∷ [])
    ∷ verdict (sheet 44 0x00_2C_01_01_03_02_00_02_00_00_00_08_00_00_00_03_00_00_00_01_00_00_00_02_00_00_00_01_00_01_00_03_00_01_00_00_01_02_00_01_00_03_00_02) (21 ∷ 0 ∷ 8 ∷ 8 ∷ 3 ∷ [])
    ∷ verdict (sheet 44 0x00_2C_01_01_03_02_00_02_00_00_00_08_00_00_00_04_00_00_00_01_00_00_00_02_00_00_00_01_00_01_00_03_00_01_00_00_01_02_00_01_00_03_00_03) (11 ∷ 0 ∷ 0 ∷ 0 ∷ 0 ∷ [])
    ∷ verdict (sheet 40 0x00_28_01_01_02_02_00_01_00_00_00_05_00_00_00_05_00_00_00_01_00_00_00_01_00_01_00_01_00_01_00_00_01_00_00_01_00_01_00_00) (10 ∷ 0 ∷ 0 ∷ 0 ∷ 0 ∷ [])
    ∷ verdict (sheet 40 0x00_28_01_01_02_02_00_01_00_00_00_05_00_00_00_05_00_00_00_01_00_00_00_01_00_01_00_01_00_01_00_00_01_00_00_01_00_01_00_01) (0 ∷ 0 ∷ 2 ∷ 5 ∷ 0 ∷ [])
    ∷ verdict (sheet 40 0x00_28_01_01_02_02_00_01_00_00_00_0A_00_00_00_0A_00_00_00_01_00_00_00_01_00_01_00_01_00_01_00_00_00_01_00_02_00_01_00_00) (8 ∷ 0 ∷ 0 ∷ 0 ∷ 0 ∷ [])
    ∷ verdict (sheet 32 0x00_20_01_01_02_01_00_01_00_00_00_0A_00_00_00_0A_00_00_00_01_00_00_00_01_00_01_00_02_00_03_00_00) (9 ∷ 0 ∷ 0 ∷ 0 ∷ 0 ∷ [])
    ∷ verdict (sheet 36 0x00_24_01_02_01_00_00_00_00_00_00_0A_00_00_00_06_00_00_00_03_01_00_00_00_00_00_00_0F_00_00_00_05_00_00_00_04) (21 ∷ 0 ∷ 17 ∷ 30 ∷ 6 ∷ [])
    ∷ told C1 (λ o. numbers_of skip_numbers o 0) (0 ∷ 2 ∷ 0 ∷ [])
    ∷ told C1 (λ o. reply_of (fewest_told o 0 1 0)) (0 ∷ 0 ∷ 0 ∷ [])
    ∷ told C1 (λ o. reply_of (fewest_told o 0 1 1)) (0 ∷ 0 ∷ 1 ∷ [])
    ∷ told C1 (λ o. reply_of (fewest_told o 0 1 2)) (0 ∷ 0 ∷ 4 ∷ [])
    ∷ told C1 (λ o. reply_of (demand_told o 3)) (0 ∷ 0 ∷ 0 ∷ [])
    ∷ told C1 (λ o. reply_of (demand_told o 4)) (0 ∷ 0 ∷ 4 ∷ [])
    ∷ told C1 (λ o. reply_of (demand_told o 11)) (0 ∷ 0 ∷ 4 ∷ [])
    ∷ told C1 (λ o. reply_of (demand_told o 12)) (0 ∷ 0 ∷ 12 ∷ [])
    ∷ told C1 (λ o. numbers_of task_list o 0) (1 ∷ 4 ∷ 8 ∷ 2 ∷ 4 ∷ 8 ∷ 4 ∷ 12 ∷ 8 ∷ 1 ∷ 4 ∷ 8 ∷ [])
    ∷ []

-- Every row of the table holds.
pub cases : Every table
unfolding table to_bytes verdict_exists sheet_exists tasks tasks_to actor_tasks task_numbers
cases = every table refl
