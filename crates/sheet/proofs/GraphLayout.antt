-- 01, The sheet, byte by byte: how much room a graph takes in each form, and which field stands at which place.
use mathlib.Core.Path.{◌≡◌, refl, ap, ◌∙◌}
use mathlib.Core.List.{List, [], ◌∷◌, ◌++◌}
use Prim.Native.Nat.{ℕ, zero, suc, ◌+◌, ◌*◌, ◌-◌, ◌/◌, ◌%◌, ◌≤◌, ◌<◌}
use native.Mathlib.Omega.{arith}
use lib.ListN.{length, get_or, get_or-append}
use lib.Seq.{get_or-append-add}
use Rattle.units.specs.Bounds.{max_time}
use Rattle.sheet.specs.Field.{Field}
use Rattle.sheet.specs.Sizes.{Sizes}
use Rattle.sheet.specs.Layout.{mk, none, fixed_part, actor_part, channel_part, times, layout, total, in_bytes, in_numbers}

-- The room of fields in two parts is the room of both.
pub total_append : (size : Field → ℕ) (fs gs : List Field) → total size (fs ++ gs) ≡ total size fs + total size gs
unfolding total
total_append size [] gs = omega arith
total_append size (f ∷ fs) gs = omega (arith, total_append size fs gs)

-- The room of n times the same fields.
pub total_times : (size : Field → ℕ) (n : ℕ) (part : List Field) → total size (times n part) ≡ n * total size part
unfolding total times
total_times size zero part = omega arith
total_times size (suc n) part = omega (arith, total_append size part (times n part), total_times size n part)

-- The room of a graph is that of its fixed part, its actors and its channels.
pub total_layout :
    (size : Field → ℕ) (a c : ℕ) →
    total size (layout a c) ≡ total size (fixed_part a) + (a * total size actor_part + c * total size (channel_part a))
unfolding layout
total_layout size a c =
    omega (
      arith,
      total_append size (fixed_part a) (times a actor_part ++ times c (channel_part a)),
      total_append size (times a actor_part) (times c (channel_part a)),
      total_times size a actor_part,
      total_times size c (channel_part a),
    )

-- The fixed part is 12 bytes.
pub fixed_bytes : (a : ℕ) → total in_bytes (fixed_part a) ≡ 12
unfolding total fixed_part
fixed_bytes a = refl

-- The fixed part is 6 numbers.
pub fixed_numbers : (a : ℕ) → total in_numbers (fixed_part a) ≡ 6
unfolding total fixed_part
fixed_numbers a = refl

-- A graph is 12 bytes, 4 for each actor and 8 for each channel.
pub layout_bytes : (a c : ℕ) → total in_bytes (layout a c) ≡ 12 + 4 * a + 8 * c
unfolding total fixed_part actor_part channel_part
layout_bytes a c = omega (arith, total_layout in_bytes a c)

-- A graph is 6 numbers, one for each actor and 5 for each channel.
pub layout_numbers : (a c : ℕ) → total in_numbers (layout a c) ≡ 6 + a + 5 * c
unfolding total fixed_part actor_part channel_part
layout_numbers a c = omega (arith, total_layout in_numbers a c)

module _ {size : Field → ℕ} {f a c : ℕ} (z : Sizes size f a c) where
  -- A graph takes what its parts take.
  pub layout_is : (n m : ℕ) → total size (layout n m) ≡ f + n * a + m * c
  layout_is n m = total_layout size n m ∙ rw (z.fixed_is n, z.actor_is, z.channel_is n) (omega arith)

-- Fields take a number each.
pub length_fields : (fs : List Field) → length fs ≡ total in_numbers fs
unfolding total
length_fields [] = refl
length_fields (f ∷ fs) = omega (arith, length_fields fs)

-- A graph has as many fields as numbers.
pub layout_length : (a c : ℕ) → length (layout a c) ≡ total in_numbers (layout a c)
layout_length a c = length_fields (layout a c)

times_at :
    (n : ℕ) (part : List Field) (m r : ℕ) → m < n → r < length part →
    get_or (times n part) (m * length part + r) none ≡ get_or part r none
unfolding times
times_at zero part m r h l = absurd (omega arith)
times_at (suc n) part zero r h l =
    ap (λ (j : ℕ). get_or (part ++ times n part) j none) (omega arith) ∙ get_or-append part (times n part) none r l
times_at (suc n) part (suc m) r h l =
    ap (λ (j : ℕ). get_or (part ++ times n part) j none) (omega arith)
    ∙ get_or-append-add part (times n part) (m * length part + r) none
    ∙ times_at n part m r (omega arith) l

get_or_behind : (fs gs : List Field) (i : ℕ) → length fs ≤ i → get_or (fs ++ gs) i none ≡ get_or gs (i - length fs) none
get_or_behind fs gs i h =
    let e : i ≡ length fs + (i - length fs) = omega arith in
    ap (λ (j : ℕ). get_or (fs ++ gs) j none) e ∙ get_or-append-add fs gs (i - length fs) none

length_times : (a : ℕ) → length (times a actor_part) ≡ a
unfolding total actor_part
length_times a = omega (arith, length_fields (times a actor_part), total_times in_numbers a actor_part)

-- Fields 0 to 5 are those of the fixed part.
pub layout_fixed : (a c i : ℕ) → i < 6 → get_or (layout a c) i none ≡ get_or (fixed_part a) i none
unfolding layout fixed_part
layout_fixed a c i h = get_or-append (fixed_part a) (times a actor_part ++ times c (channel_part a)) none i h

-- The next fields, one for each actor, are the worst-case times.
pub layout_actor : (a c i : ℕ) → 6 ≤ i → i - 6 < a → get_or (layout a c) i none ≡ mk 4 0 max_time
unfolding layout fixed_part actor_part
layout_actor a c i h l =
    let times_of : List Field = times a actor_part in
    let channels : List Field = times c (channel_part a) in
    let e : i - 6 ≡ (i - 6) * 1 + 0 = omega arith in
    get_or_behind (fixed_part a) (times_of ++ channels) i h
    ∙ get_or-append times_of channels none (i - 6) (omega (arith, length_times a))
    ∙ ap (λ (j : ℕ). get_or times_of j none) e
    ∙ times_at a actor_part (i - 6) 0 l (omega arith)

-- The fields after those are the channels', five for each.
pub layout_channel :
    (a c i : ℕ) → 6 ≤ i → a ≤ i - 6 → i < total in_numbers (layout a c) →
    get_or (layout a c) i none ≡ get_or (channel_part a) ((i - 6 - a) % 5) none
unfolding layout fixed_part channel_part
layout_channel a c i h l m =
    let times_of : List Field = times a actor_part in
    let channels : List Field = times c (channel_part a) in
    let j : ℕ = i - 6 - a in
    let e : i - 6 - length times_of ≡ j / 5 * 5 + j % 5 = omega (arith, length_times a) in
    get_or_behind (fixed_part a) (times_of ++ channels) i h
    ∙ get_or_behind times_of channels (i - 6) (omega (arith, length_times a))
    ∙ ap (λ (k : ℕ). get_or channels k none) e
    ∙ times_at c (channel_part a) (j / 5) (j % 5) (omega (arith, layout_numbers a c)) (omega arith)
