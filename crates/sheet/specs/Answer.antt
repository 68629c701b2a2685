-- 01, The answer table: the refusals, with the number and the place that document 01 gives each.
use Rattle.std.specs.Prelude.{Bool, true, false, cond, List, ◌++◌, ℕ, leb, drop, Result, Ok, Err}
use Rattle.sheet.specs.declared.Refusal.{Refusal}
use Rattle.sheet.specs.declared.Refusal.TheVariants.{
  Length,
  Version,
  Count,
  Cut,
  Size,
  Range,
  Reach,
  Balance,
  NotOnce,
  Deadlock,
  Restless,
  Frame,
  Question,
  Room,
  Number,
}

-- 01, The answer table, column "No."
abbrev pub number_of : Refusal → ℕ
number_of Length = 1
number_of Version = 2
number_of Count = 3
number_of (Cut k) = 4
number_of (Size k) = 5
number_of (Range k) = 6
number_of (Reach k) = 7
number_of (Balance k) = 8
number_of (NotOnce k) = 9
number_of (Deadlock k) = 10
number_of (Restless k) = 11
number_of Frame = 12
number_of Question = 13
number_of Room = 14
number_of Number = 15

-- 01, Place: the graph's number for 4 to 11, else 0.
abbrev pub place_of : Refusal → ℕ
place_of Length = 0
place_of Version = 0
place_of Count = 0
place_of (Cut k) = k
place_of (Size k) = k
place_of (Range k) = k
place_of (Reach k) = k
place_of (Balance k) = k
place_of (NotOnce k) = k
place_of (Deadlock k) = k
place_of (Restless k) = k
place_of Frame = 0
place_of Question = 0
place_of Room = 0
place_of Number = 0

-- What a part of the table says: nothing is wrong and the lines below decide, or a refusal.
abbrev pub Answer : Type 0
Answer = Result (Unit {0}) Refusal

-- What a call says: a number, or a refusal.
abbrev pub Reply : Type 0
Reply = Result ℕ Refusal

-- One line of the table: unless what it asks for holds, its refusal; if it holds, the lines below decide.
abbrev pub unless : {A : Type 0} → Bool → Refusal → Result A Refusal → Result A Refusal
unless true r below = below
unless false r below = Err r

-- One part of the table above another.
abbrev pub then : {A : Type 0} → Answer → Result A Refusal → Result A Refusal
then (Ok _) below = below
then (Err r) below = Err r

-- 01, answer 14, for a result of n numbers or bytes: with room for it they are written and counted.
abbrev pub written : Answer → ℕ → ℕ → Reply
written (Ok _) room n = cond (leb n room) (Ok n) (Err Room)
written (Err r) room n = Err r

-- 01: what lent memory holds in the end. The result takes the first places and the rest stays; a refusal changes nothing.
abbrev pub filled : Reply → List ℕ → List ℕ → List ℕ
filled (Ok n) result before = result ++ drop n before
filled (Err r) result before = before
