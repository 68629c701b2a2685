-- What stands ready of a graph once answers 6 to 11 have passed it, and how its places are filled one after the other.
use Rattle.std.specs.Prelude.{◌≡◌, true, List, [], ℕ, ◌+◌, ◌*◌, ◌<◌, Ok, Err, length, get_or, take}
use Rattle.units.specs.Bounds.{max_repetition}
use Rattle.sdf.specs.Graph.{Reached}
use Rattle.sdf.specs.Order.{Lives, AtRest}
use Rattle.sdf.specs.Balance.{Balances, Once}
use Rattle.trial.specs.Flat.{vector}
use Rattle.graph.specs.declared.Fault.{Fault}
use Rattle.graph.specs.declared.Fault.TheVariants as fault
use Rattle.demand.specs.Lent.{no_actor}
use Rattle.demand.specs.declared.rows.Head.{Head}
use Rattle.demand.specs.declared.rows.Actor.{Actor}
use Rattle.sheet.specs.declared.Refusal.{Refusal}
use Rattle.sheet.specs.declared.Refusal.TheVariants.{Reach, Balance, NotOnce, Deadlock, Restless}
use Rattle.sheet.specs.Answer.{Answer}
use Rattle.sheet.specs.Fields.{in_range}
use Rattle.sheet.specs.Check.{actor_count, times_of}
use Rattle.sheet.specs.Forms.{layout_of}
use Rattle.ready.specs.Graphs.{Judged, drawn, RepetitionNumbers, SkipNumbers}
use Rattle.ready.specs.Lines.{Outcome, refused, graph_lines, frame_line, second_walk}
use Rattle.ready.specs.Rows.{Rows}

-- Answers 7 to 11 with the graph's number for their place.
abbrev pub refusal_of : Fault → ℕ → Refusal
refusal_of fault.Reach k = Reach k
refusal_of fault.Balance k = Balance k
refusal_of fault.NotOnce k = NotOnce k
refusal_of fault.Deadlock k = Deadlock k
refusal_of fault.Restless k = Restless k

-- The graph at the start of l meets answers 6 to 11, with q its repetition numbers and s its skips.
pub record Met (l q s : List ℕ) : Type 0 where
  pub range : in_range (layout_of l) l ≡ true
  pub reached : Reached (drawn l)
  pub balances : Balances (drawn l) max_repetition
  pub repetition : RepetitionNumbers (drawn l) q
  pub once : Once (drawn l) (vector q)
  pub lives : Lives (drawn l) (vector q)
  pub rest : AtRest (drawn l)
  pub skips : SkipNumbers (drawn l) s

-- Whatever stands below them, answers 6 to 11 refuse graph k.
abbrev pub Refuses : ℕ → List ℕ → Refusal → Type 0
Refuses k l r = graph_lines k l (λ _ _. ⊥) (refused r)

-- What is said of graph k, whose numbers stand in the first places of q and s.
abbrev pub Says : ℕ → List ℕ → Answer → List ℕ → List ℕ → Type 0
Says k l (Err r) q s = Refuses k l r
Says k l (Ok _) q s = Met l (take (actor_count l) q) (take (actor_count l) s)

-- The head of the graph at the start of l.
pub record Headed (l : List ℕ) (head : Head) : Type 0 where
  pub period : head.period.n ≡ get_or l 4 0
  pub deadline : head.deadline.n ≡ get_or l 5 0
  pub actors : head.actors ≡ actor_count l

-- Worst-case times, repetition numbers and skips of its first n actors stand in row k, and the rows before it are as they were.
pub record Placed (l q s : List ℕ) (k n : ℕ) (before after : List Actor) : Type 0 where
  pub time : (v : ℕ) → v < n → (get_or after (32 * k + v) no_actor).time.n ≡ get_or (times_of l) v 0
  pub repetition : (v : ℕ) → v < n → (get_or after (32 * k + v) no_actor).repetition.n ≡ get_or q v 0
  pub skip : (v : ℕ) → v < n → (get_or after (32 * k + v) no_actor).skip.n ≡ get_or s v 0
  pub same : (i : ℕ) → i < 32 * k → get_or after i no_actor ≡ get_or before i no_actor

-- A refusal of the second walk over the n graphs of l, or the judged graphs in their places, and what is left to answer 12.
abbrev pub Walked : ℕ → List ℕ → Answer → List Head → List Actor → Type 0
Walked n l (Err r) heads actors = second_walk n 0 l [] (refused r)
Walked n l (Ok _) heads actors =
    (js : List Judged) × (length js ≡ n) × Rows js heads actors × ((o : Outcome) → frame_line js o → second_walk n 0 l [] o)
