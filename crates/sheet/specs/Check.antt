-- 01, Order: answers 1 to 5 in their order, for both forms.
use Rattle.std.specs.Prelude.{Bool, ◌&&◌, List, ℕ, zero, suc, ◌+◌, ◌*◌, leb, eqb, length, get_or, take, drop, Ok}
use Rattle.units.specs.Bounds.{max_graphs, max_actors, max_channels}
use Rattle.units.specs.Within.{between}
use Rattle.sheet.specs.declared.Refusal.TheVariants.{Length, Version, Count, Cut, Size}
use Rattle.sheet.specs.Field.{Field}
use Rattle.sheet.specs.Answer.{Answer, unless, then}
use Rattle.sheet.specs.Layout.{fixed_part, layout, total, in_bytes, in_numbers}
use Rattle.sheet.specs.Fields.{big_endian}

-- The counts that a graph's stretch begins with, the same places in both forms.
abbrev pub actor_count : List ℕ → ℕ
actor_count s = get_or s 0 0

abbrev pub channel_count : List ℕ → ℕ
channel_count s = get_or s 1 0

-- The graph at the start of l, in the unpacked form: actor count, channel count, input, output, T, D; a worst-case time for each
-- actor; five numbers for each channel.
abbrev pub times_of : List ℕ → List ℕ
times_of l = take (actor_count l) (drop 6 l)

abbrev pub channels_of : List ℕ → List ℕ
channels_of l = take (5 * channel_count l) (drop (6 + actor_count l) l)

-- 01, answer 5: actor and channel count are within bounds.
unfoldable pub sized : List ℕ → Bool
sized s = between 1 max_actors (actor_count s) && between 0 max_channels (channel_count s)

-- What the graph at the start of s takes up.
unfoldable pub stretch : (Field → ℕ) → List ℕ → ℕ
stretch size s = total size (layout (actor_count s) (channel_count s))

-- 01, Order, first walk, one graph, numbered k, at the start of s: its fixed part is there, its counts are within bounds, the
-- rest of it is there.
unfoldable pub graph_check : (Field → ℕ) → ℕ → List ℕ → Answer
graph_check size k s =
    unless (leb (total size (fixed_part 0)) (length s)) (Cut k)
    (unless (sized s) (Size k)
    (unless (leb (stretch size s) (length s)) (Cut k) (Ok tt)))

-- 01, Order, first walk: n graphs to come, the next one numbered k; after the last of them nothing is left over.
unfoldable pub first_walk : (Field → ℕ) → ℕ → ℕ → List ℕ → Answer
first_walk size zero k s = unless (eqb (length s) 0) (Cut k) (Ok tt)
first_walk size (suc n) k s = then (graph_check size k s) (first_walk size n (suc k) (drop (stretch size s) s))

-- 01, answer 3, and the first walk behind it.
unfoldable pub check_graphs : (Field → ℕ) → ℕ → List ℕ → Answer
check_graphs size n s = unless (between 1 max_graphs n) Count (first_walk size n 0 s)

-- 01, answers 1 to 5 for a byte string: length (2 bytes), version (1), graph count (1), graphs.
unfoldable pub check_sheet : List ℕ → Answer
check_sheet s =
    unless (leb 4 (length s) && eqb (big_endian 2 s) (length s)) Length
    (unless (eqb (get_or s 2 0) 1) Version
    (check_graphs in_bytes (get_or s 3 0) (drop 4 s)))

-- 01, answers 3 to 5 for the unpacked form: graph count, graphs. An empty list has count 0.
unfoldable pub check_list : List ℕ → Answer
check_list l = check_graphs in_numbers (get_or l 0 0) (drop 1 l)
