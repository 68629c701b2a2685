-- 01, Bounds: the largest number of each kind, written once. "Ticks", "Firings" and "Tokens" say which count a bound
-- belongs to.
use Rattle.std.specs.Prelude.{ℕ}

-- A sheet holds 1 to 8 graphs, a graph 1 to 32 actors and 0 to 64 channels.
abbrev pub max_graphs : ℕ
max_graphs = 8

abbrev pub max_actors : ℕ
max_actors = 32

abbrev pub max_channels : ℕ
max_channels = 64

-- Ticks: period and deadline are 1 to ten million; so is the frame at most, and the length in a question.
abbrev pub max_ticks : ℕ
max_ticks = 10000000

-- Ticks: a worst-case time is 0 to a hundred thousand.
abbrev pub max_time : ℕ
max_time = 100000

-- Firings: a repetition number is at most 4,096.
abbrev pub max_repetition : ℕ
max_repetition = 4096

-- Firings: the K of a question is at most ten million.
abbrev pub max_outputs : ℕ
max_outputs = 10000000

-- Tokens: a rate is 1 to 4,096.
abbrev pub max_rate : ℕ
max_rate = 4096

-- Tokens: a channel starts with 0 to 65,535.
abbrev pub max_tokens : ℕ
max_tokens = 65535

-- What the engine on one graph takes: as many actors as one word has bits.
abbrev pub engine_actors : ℕ
engine_actors = 64

abbrev pub engine_channels : ℕ
engine_channels = 256
