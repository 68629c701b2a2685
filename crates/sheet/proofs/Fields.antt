-- 01, The sheet, byte by byte: a big-endian field of any width, and a graph's fields one after the other. Reading what was
-- written gives the number back, and writing what was read gives the bytes back; so it does with width 0, where nothing is
-- stored. A number that passes answer 6 has room in its field.
use mathlib.Core.Path.{◌≡◌, refl, sym, ap, ◌∙◌}
use mathlib.Core.Bool.{true}
use mathlib.Core.List.{List, [], ◌∷◌, ◌++◌, append_assoc}
use Prim.Native.Nat.{ℕ, zero, suc, ◌+◌, ◌-◌, ◌*◌, ◌/◌, ◌%◌, ◌^◌, ◌≤◌, ◌<◌, suc-le-suc}
use native.Mathlib.Nat.{
  pow-succ',
  one-le-pow,
  mul-le-mul_right,
  le_of_suc-le-suc,
  not-suc-le-zero,
  zero-lt-suc,
  mod-lt,
  mod-eq_of_lt,
  div-eq_of_lt,
  mul-add-div_right,
  mul-add-mod_self_right,
  div-add-mod',
  div-lt_iff_lt-mul,
  add_assoc,
  mul_assoc,
  add-zero,
}
use native.Mathlib.Omega.{arith}
use lib.Dec.{lit<, leb}
use lib.ListN.{length, get_or, take, drop, length-append, length-drop}
use lib.Seq.{drop-drop, get_or-drop, take-add, drop_at}
use borrow.Author.Tests.{leb-true}
use Rattle.units.specs.Bounds.{max_actors}
use Rattle.units.specs.Within.{between}
use Rattle.sheet.specs.Field.{Field}
use Rattle.sheet.specs.Layout.{none, fixed_part, actor_part, channel_part, times, layout, total, in_bytes}
use Rattle.sheet.proofs.Walk.{and_true}
use Rattle.sheet.specs.Fields.{big_endian, to_bytes, numbers, bytes, in_range, Bytes}

place : (w : ℕ) → 0 < 256 ^ w
place w = one-le-pow w 256 (lit< tt)

-- Past the end a byte string reads 0, so what it reads is below 256 everywhere.
pub bytes_at : (s : List ℕ) → Bytes s → (i : ℕ) → get_or s i 0 < 256
bytes_at [] b i = lit< tt
bytes_at (x ∷ s) b zero = b 0 (zero-lt-suc _)
bytes_at (x ∷ s) b (suc i) = bytes_at s (λ j h. b (suc j) (suc-le-suc h)) i

-- What is left of a byte string is a byte string.
pub bytes_drop : (n : ℕ) (s : List ℕ) → Bytes s → Bytes (drop n s)
bytes_drop n s b i h = rw get_or-drop (bytes_at s b (n + i))

-- Two byte strings, one after the other, are a byte string.
pub bytes_append : (s t : List ℕ) → Bytes s → Bytes t → Bytes (s ++ t)
bytes_append [] t b c i h = c i h
bytes_append (x ∷ s) t b c zero h = b 0 (zero-lt-suc _)
bytes_append (x ∷ s) t b c (suc i) h = bytes_append s t (λ j k. b (suc j) (suc-le-suc k)) c i (le_of_suc-le-suc h)

-- A field of width w reads as a number below 256 ^ w.
pub big_endian_below : (w : ℕ) (s : List ℕ) → Bytes s → big_endian w s < 256 ^ w
unfolding big_endian
big_endian_below zero s b = lit< tt
big_endian_below (suc w) s b =
    rw pow-succ' (omega (arith, mul-le-mul_right (256 ^ w) (bytes_at s b 0), big_endian_below w (drop 1 s) (bytes_drop 1 s b)))

-- A field of one byte is that byte.
pub big_endian_one : (s : List ℕ) → big_endian 1 s ≡ get_or s 0 0
unfolding big_endian
big_endian_one s = omega arith

-- A field of two bytes at place `at`.
pub big_endian_two : (s : List ℕ) (at : ℕ) → get_or s at 0 * 256 + get_or s (at + 1) 0 ≡ big_endian 2 (drop at s)
unfolding big_endian
big_endian_two s at = simp (get_or-drop, drop-drop, add-zero) (omega arith)

-- A field of four bytes at place `at`.
pub big_endian_four :
    (s : List ℕ) (at : ℕ) →
    get_or s at 0 * 16777216 + get_or s (at + 1) 0 * 65536 + get_or s (at + 2) 0 * 256 + get_or s (at + 3) 0 ≡ big_endian 4 (drop at s)
unfolding big_endian
big_endian_four s at = simp (get_or-drop, drop-drop, add-zero, add_assoc) (omega arith)

-- Two fields of two bytes are one of four.
pub big_endian_halves : (s : List ℕ) (at : ℕ) → big_endian 2 (drop at s) * 65536 + big_endian 2 (drop (at + 2) s) ≡ big_endian 4 (drop at s)
unfolding big_endian
big_endian_halves s at = simp (get_or-drop, drop-drop, add-zero, add_assoc) (omega arith)

-- A number takes as many bytes as its field is wide.
pub to_bytes_length : (w n : ℕ) → length (to_bytes w n) ≡ w
unfolding to_bytes
to_bytes_length zero n = refl
to_bytes_length (suc w) n = ap suc (to_bytes_length w n)

-- They are bytes.
pub to_bytes_bytes : (w n : ℕ) → Bytes (to_bytes w n)
unfolding to_bytes
to_bytes_bytes zero n i h = lit< tt
to_bytes_bytes (suc w) n zero h = mod-lt (n / 256 ^ w) (lit< tt)
to_bytes_bytes (suc w) n (suc i) h = to_bytes_bytes w n i (le_of_suc-le-suc h)

-- What passes the width of a field leaves no trace in it.
to_bytes_wraps : (w k n : ℕ) → to_bytes w (k * 256 ^ w + n) ≡ to_bytes w n
unfolding to_bytes
to_bytes_wraps zero k n = refl
to_bytes_wraps (suc w) k n =
    rw (pow-succ', ← mul_assoc k 256 (256 ^ w), mul-add-div_right (place w), mul-add-mod_self_right, to_bytes_wraps w (k * 256) n)

-- Writing what was read gives the bytes back.
pub to_bytes_big_endian : (w : ℕ) (s : List ℕ) → w ≤ length s → Bytes s → to_bytes w (big_endian w s) ≡ take w s
unfolding big_endian to_bytes
to_bytes_big_endian zero s h b = refl
to_bytes_big_endian (suc w) [] h b = absurd (not-suc-le-zero h)
to_bytes_big_endian (suc w) (x ∷ s) h b =
    let c : Bytes s = bytes_drop 1 (x ∷ s) b in
    let e : big_endian w s / 256 ^ w ≡ 0 = div-eq_of_lt (big_endian_below w s c) in
    let d : x < 256 = bytes_at (x ∷ s) b 0 in
    rw (to_bytes_wraps w x (big_endian w s), to_bytes_big_endian w s (le_of_suc-le-suc h) c, mul-add-div_right (place w), e, add-zero, mod-eq_of_lt d)

-- Reading what was written gives the number back.
pub big_endian_to_bytes : (w n : ℕ) (rest : List ℕ) → n < 256 ^ w → big_endian w (to_bytes w n ++ rest) ≡ n
unfolding big_endian to_bytes
big_endian_to_bytes zero n rest h = omega arith
big_endian_to_bytes (suc w) n rest h =
    let q : n / 256 ^ w < 256 = (div-lt_iff_lt-mul (place w)).1 (rw pow-succ' at h) in
    let r : n % 256 ^ w < 256 ^ w = mod-lt n (place w) in
    let e : to_bytes w n ≡ to_bytes w (n % 256 ^ w) = ap (to_bytes w) (sym (div-add-mod' n (256 ^ w))) ∙ to_bytes_wraps w (n / 256 ^ w) (n % 256 ^ w) in
    rw (mod-eq_of_lt q, e, big_endian_to_bytes w (n % 256 ^ w) rest r) (div-add-mod' n (256 ^ w))

-- As many numbers are read as there are fields.
pub numbers_length : (L : List Field) (s : List ℕ) → length (numbers L s) ≡ length L
unfolding numbers
numbers_length [] s = refl
numbers_length (f ∷ L) s = ap suc (numbers_length L (drop f.width s))

-- As many bytes are written as the fields take.
pub bytes_length : (L : List Field) (l : List ℕ) → length (bytes L l) ≡ total in_bytes L
unfolding bytes total
bytes_length [] l = refl
bytes_length (f ∷ L) l = simp (length-append, to_bytes_length, bytes_length L (drop 1 l))

-- They are bytes.
pub bytes_bytes : (L : List Field) (l : List ℕ) → Bytes (bytes L l)
unfolding bytes
bytes_bytes [] l = λ i h. lit< tt
bytes_bytes (f ∷ L) l =
    bytes_append (to_bytes f.width (get_or l 0 0)) (bytes L (drop 1 l)) (to_bytes_bytes f.width (get_or l 0 0)) (bytes_bytes L (drop 1 l))

-- Writing the numbers that were read gives the bytes back.
pub bytes_numbers :
    (L : List Field) (s rest : List ℕ) → total in_bytes L ≤ length s → Bytes s → bytes L (numbers L s ++ rest) ≡ take (total in_bytes L) s
unfolding bytes numbers total
bytes_numbers [] s rest h b = refl
bytes_numbers (f ∷ L) s rest h b =
    let w : f.width ≤ length s = omega arith in
    let k : total in_bytes L ≤ length (drop f.width s) = simp length-drop (omega arith) in
    rw (to_bytes_big_endian f.width s w b, bytes_numbers L (drop f.width s) rest k (bytes_drop f.width s b), take-add)

-- Each number of l is below what its field can hold.
abbrev pub Fits : List Field → List ℕ → Type 0
Fits L l = (i : ℕ) → i < length L → get_or l i 0 < 256 ^ (get_or L i none).width

-- Reading the bytes that were written gives the numbers back.
pub numbers_bytes :
    (L : List Field) (l rest : List ℕ) → length L ≤ length l → Fits L l → numbers L (bytes L l ++ rest) ≡ take (length L) l
unfolding bytes numbers
numbers_bytes [] l rest h r = refl
numbers_bytes (f ∷ L) [] rest h r = absurd (not-suc-le-zero h)
numbers_bytes (f ∷ L) (x ∷ l) rest h r =
    rw (
      append_assoc,
      big_endian_to_bytes f.width x (bytes L l ++ rest) (r 0 (zero-lt-suc _)),
      drop_at (to_bytes f.width x) (bytes L l ++ rest) f.width (to_bytes_length f.width x),
      numbers_bytes L l rest (le_of_suc-le-suc h) (λ i k. r (suc i) (suc-le-suc k)),
    )

-- Every field of L has room for the greatest number that it may hold.
abbrev roomy : List Field → Type 0
roomy [] = Unit {0}
roomy (f ∷ L) = (f.high < 256 ^ f.width) × roomy L

roomy_append : (L M : List Field) → roomy L → roomy M → roomy (L ++ M)
roomy_append [] M r q = q
roomy_append (f ∷ L) M r q = (r.0, roomy_append L M r.1 q)

roomy_times : (n : ℕ) (L : List Field) → roomy L → roomy (times n L)
unfolding times
roomy_times zero L r = tt
roomy_times (suc n) L r = roomy_append L (times n L) r (roomy_times n L r)

roomy_layout : (a c : ℕ) → a ≤ max_actors → roomy (layout a c)
unfolding layout fixed_part actor_part channel_part
roomy_layout a c h =
    let n : a - 1 < 256 = omega arith in
    roomy_append (fixed_part a) (times a actor_part ++ times c (channel_part a))
    (lit< tt, (lit< tt, (n, (n, (lit< tt, (lit< tt, tt))))))
    (roomy_append (times a actor_part) (times c (channel_part a)) (roomy_times a actor_part (lit< tt, tt))
    (roomy_times c (channel_part a) (n, (n, (lit< tt, (lit< tt, (lit< tt, tt)))))))

range_fields : (L : List Field) (l : List ℕ) → roomy L → in_range L l ≡ true → Fits L l
unfolding in_range
range_fields [] l q e i h = absurd (not-suc-le-zero h)
range_fields (f ∷ L) l q e zero h =
    let both : (between f.low f.high (get_or l 0 0) ≡ true) × (in_range L (drop 1 l) ≡ true) = and_true _ _ e in
    let within : (leb f.low (get_or l 0 0) ≡ true) × (leb (get_or l 0 0) f.high ≡ true) = and_true _ _ both.0 in
    omega (arith, leb-true (get_or l 0 0) f.high within.1)
range_fields (f ∷ L) l q e (suc i) h =
    let both : (between f.low f.high (get_or l 0 0) ≡ true) × (in_range L (drop 1 l) ≡ true) = and_true _ _ e in
    let t : get_or (drop 1 l) i 0 ≡ get_or l (suc i) 0 = get_or-drop 1 l i 0 ∙ ap (λ (k : ℕ). get_or l k 0) (omega arith) in
    rw t at (range_fields L (drop 1 l) q.1 both.1 i (le_of_suc-le-suc h))

-- 01, answer 6: each number of a graph within its bounds has room in its field.
pub range_room : (a c : ℕ) (l : List ℕ) → a ≤ max_actors → in_range (layout a c) l ≡ true → Fits (layout a c) l
range_room a c l h e = range_fields (layout a c) l (roomy_layout a c h) e
