-- 01, The sheet: one graph of the unpacked form, and what judging it finds.
use Rattle.std.specs.Prelude.{◌≡◌, List, [], ℕ, zero, suc, length, get_or, drop}
use Rattle.sdf.specs.Graph.{Graph}
use Rattle.sdf.specs.Balance.{Repetition}
use Rattle.sdf.specs.Skip.{Skips}
use Rattle.edf.specs.Demand.{Work, Works}
use Rattle.trial.specs.Flat.{graph_of, vector}
use Rattle.sheet.specs.Layout.{in_numbers}
use Rattle.sheet.specs.Check.{actor_count, stretch, times_of, channels_of}

-- The graph at the start of l.
abbrev pub drawn : List ℕ → Graph
drawn l = graph_of (actor_count l) (get_or l 2 0) (get_or l 3 0) (channels_of l)

-- What stands behind the first i graphs of l, each graph in its own stretch.
unfoldable pub behind : ℕ → List ℕ → List ℕ
behind zero l = l
behind (suc i) l = behind i (drop (stretch in_numbers l) l)

-- Graph i of the unpacked form l: the graph count comes first.
abbrev pub graph_at : List ℕ → ℕ → Graph
graph_at l i = drawn (behind i (drop 1 l))

-- What demand needs of a judged graph: T, D and, one number for each actor, worst-case times, repetition numbers and skips.
pub record Judged : Type 0 where
  pub period : ℕ
  pub deadline : ℕ
  pub times : List ℕ
  pub repetition : List ℕ
  pub skips : List ℕ

abbrev pub judged : List ℕ → List ℕ → List ℕ → Judged
judged l q s = record { period = get_or l 4 0; deadline = get_or l 5 0; times = times_of l; repetition = q; skips = s }

-- 01, Balanced: the repetition numbers of g, one for each actor in order.
pub record RepetitionNumbers (g : Graph) (q : List ℕ) : Type 0 where
  pub each : length q ≡ g.actors
  pub repetition : Repetition g (vector q)

-- 01, Skip numbers: the skips of g, one for each actor in order.
pub record SkipNumbers (g : Graph) (s : List ℕ) : Type 0 where
  pub each : length s ≡ g.actors
  pub skips : Skips g (vector s)

abbrev pub work_of : Judged → Work
work_of j = record {
  period = j.period;
  deadline = j.deadline;
  actors = length j.times;
  time = vector j.times;
  repetition = vector j.repetition;
  skip = vector j.skips;
}

abbrev pub nothing : Judged
nothing = record { period = 0; deadline = 0; times = []; repetition = []; skips = [] }

abbrev pub works_of : List Judged → Works
works_of js = record { graphs = length js; work = λ i. work_of (get_or js i nothing) }
