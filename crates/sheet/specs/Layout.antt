-- 01, The sheet, byte by byte, and Bounds: the fields of a graph in their order, each with its width in bytes and the numbers
-- that it may hold. Reading, writing and the check of ranges go by this one list.
use Rattle.std.specs.Prelude.{List, [], ◌∷◌, ◌++◌, ℕ, zero, suc, ◌+◌, ◌-◌}
use Rattle.units.specs.Bounds.{max_actors, max_channels, max_rate, max_ticks, max_time, max_tokens}
use Rattle.sheet.specs.Field.{Field}

-- A field: its width, its least and its greatest number.
abbrev pub mk : ℕ → ℕ → ℕ → Field
mk w l h = record { width = w; low = l; high = h }

-- No field.
abbrev pub none : Field
none = mk 0 0 0

-- The number of an actor: below the actor count.
abbrev pub actor_number : ℕ → Field
actor_number actors = mk 1 0 (actors - 1)

-- Actor count, channel count, input, output, T, D.
unfoldable pub fixed_part : ℕ → List Field
fixed_part actors =
    mk 1 1 max_actors ∷ mk 1 0 max_channels ∷ actor_number actors ∷ actor_number actors ∷ mk 4 1 max_ticks ∷ mk 4 1 max_ticks ∷ []

-- A worst-case time.
unfoldable pub actor_part : List Field
actor_part = mk 4 0 max_time ∷ []

-- Tail, head, produce, consume, tokens.
unfoldable pub channel_part : ℕ → List Field
channel_part actors = actor_number actors ∷ actor_number actors ∷ mk 2 1 max_rate ∷ mk 2 1 max_rate ∷ mk 2 0 max_tokens ∷ []

unfoldable pub times : ℕ → List Field → List Field
times zero part = []
times (suc n) part = part ++ times n part

-- A graph: the fixed part, then a worst-case time for each actor, then the channels.
unfoldable pub layout : ℕ → ℕ → List Field
layout actors channels = fixed_part actors ++ (times actors actor_part ++ times channels (channel_part actors))

-- The room that fields take, where one field takes `size` of it: its width in a byte string, 1 in the unpacked form.
unfoldable pub total : (Field → ℕ) → List Field → ℕ
total size [] = 0
total size (f ∷ fs) = size f + total size fs

abbrev pub in_bytes : Field → ℕ
in_bytes f = f.width

abbrev pub in_numbers : Field → ℕ
in_numbers f = 1

-- The largest graph, 32 actors and 64 channels, in numbers and in bytes; the longest unpacked form, and the largest sheet.
abbrev pub largest_graph : ℕ
largest_graph = 358

abbrev pub largest_graph_bytes : ℕ
largest_graph_bytes = 652

abbrev pub largest_list : ℕ
largest_list = 2865

abbrev pub largest_sheet : ℕ
largest_sheet = 5220
