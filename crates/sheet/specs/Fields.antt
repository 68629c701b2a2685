-- 01, The sheet, byte by byte: numbers are big-endian. A field of width 0 is not stored and reads as 0.
use Rattle.std.specs.Prelude.{Bool, true, ◌&&◌, List, [], ◌∷◌, ◌++◌, ℕ, zero, suc, ◌+◌, ◌*◌, ◌/◌, ◌%◌, ◌^◌, ◌<◌, length, get_or, drop}
use Rattle.units.specs.Within.{between}
use Rattle.sheet.specs.Field.{Field}

-- The number that the first `width` bytes of s make.
unfoldable pub big_endian : ℕ → List ℕ → ℕ
big_endian zero s = 0
big_endian (suc w) s = get_or s 0 0 * 256 ^ w + big_endian w (drop 1 s)

-- The bytes of n in a field of that width.
unfoldable pub to_bytes : ℕ → ℕ → List ℕ
to_bytes zero n = []
to_bytes (suc w) n = n / 256 ^ w % 256 ∷ to_bytes w n

-- The numbers of the fields that stand one after the other from the start of s.
unfoldable pub numbers : List Field → List ℕ → List ℕ
numbers [] s = []
numbers (f ∷ fs) s = big_endian f.width s ∷ numbers fs (drop f.width s)

-- The bytes of the numbers at the start of l, one for each field.
unfoldable pub bytes : List Field → List ℕ → List ℕ
bytes [] l = []
bytes (f ∷ fs) l = to_bytes f.width (get_or l 0 0) ++ bytes fs (drop 1 l)

-- 01, answer 6: each field's number is within its bounds.
unfoldable pub in_range : List Field → List ℕ → Bool
in_range [] l = true
in_range (f ∷ fs) l = between f.low f.high (get_or l 0 0) && in_range fs (drop 1 l)

-- What a byte string is: numbers below 256.
abbrev pub Bytes : List ℕ → Type 0
Bytes s = (i : ℕ) → i < length s → get_or s i 0 < 256
