-- 01, Sheets on both sides of each line: the worked sheets and numbers, as claims about the definitions. They stand in one
-- table and are proved by one statement, which computes.
use mathlib.Core.Path.{◌≡◌, refl, ap₂}
use mathlib.Core.Logic.{inl, inr, ⊎_elim}
use mathlib.Core.List.{List, [], ◌∷◌, map}
use Prim.Native.Nat.{ℕ, suc, ◌-◌, ◌%◌, ◌<◌, ◌≤◌}
use native.Mathlib.Nat.{dvd_iff_mod-eq-zero}
use native.Mathlib.Omega.{arith}
use lib.ListN.{length, get_or}
use Rattle.units.specs.Bounds.{max_repetition}
use Rattle.sdf.specs.Graph.{Channel, Graph, Sound, Reached}
use Rattle.sdf.specs.Order.{Lives, Deadlock, AtRest}
use Rattle.sdf.specs.Balance.{Repetition, Balances, Once}
use Rattle.sdf.specs.Skip.{Skips, fewest}
use Rattle.sdf.specs.Sum.{sum_to}
use Rattle.sdf.proofs.Numbers.{lt_or_ge, eq_or_ne}
use Rattle.sdf.proofs.Balance.{balances_or_not}
use Rattle.sdf.proofs.Reach.{reached_or_not}
use Rattle.sdf.proofs.Decide.{Decided, test, test_right, same_or_not, then_or_not, both_or_not, fails_or_not, all_or_not, le_or_not}
use Rattle.sdf.proofs.Decide.{sound_or_not, rest_or_not, once_or_not, repetition_or_not, skips_or_not, lives_or_not}
use Rattle.edf.specs.Arrivals.{due}
use Rattle.edf.specs.Demand.{Work, Works, cost, blocks, demand, iteration, load, LateLength, Within}
use Rattle.edf.specs.Frame.{CommonMultiple, Frame}
use Rattle.edf.specs.Tasks.{tasks, tasks_to, actor_tasks, task_numbers}
use Rattle.edf.proofs.Demand.{within_exactly}

-- A list of numbers as a vector.
abbrev entries : List ℕ → ℕ → ℕ
entries xs v = get_or xs v 0

-- A channel by its five numbers.
abbrev channel : ℕ → ℕ → ℕ → ℕ → ℕ → Channel
channel tail head produce consume tokens = record { tail = tail; head = head; produce = produce; consume = consume; tokens = tokens }

-- n actors and the channels of the list; the input is 0, the output the last.
abbrev drawn : ℕ → List Channel → Graph
drawn n channels =
    record { actors = n; input = 0; output = n - 1; channels = length channels; channel = λ c. get_or channels c (channel 0 0 0 0 0) }

-- A graph of a sheet, with the repetition numbers and skips that it is said to have.
pub record Case : Type 0 where
  pub graph : Graph
  pub period : ℕ
  pub deadline : ℕ
  pub times : List ℕ
  pub repetition : List ℕ
  pub skip : List ℕ

-- One actor and no channel: a plain sporadic task.
abbrev single : (time period deadline : ℕ) → Case
single time period deadline =
    record { graph = drawn 1 []; period = period; deadline = deadline; times = time ∷ []; repetition = 1 ∷ []; skip = 0 ∷ [] }

-- The i-th graph of a sheet.
abbrev at : List Case → ℕ → Case
at sheet i = get_or sheet i (single 0 1 1)

-- What demand sees of a graph, and of a sheet.
abbrev work : Case → Work
work c =
    record { period = c.period; deadline = c.deadline; actors = c.graph.actors; time = entries c.times; repetition = entries c.repetition; skip = entries c.skip }

abbrev works : List Case → Works
works sheet = record { graphs = length sheet; work = λ i. work (at sheet i) }

-- 01, answers 7 to 11, with the repetition vector where the answer speaks of it.
pub data Refusal : Type 0 where
  reach restless : Refusal
  balance : (bound : ℕ) → Refusal
  once deadlock : (repetition : List ℕ) → Refusal

-- 01, answers 0, 20 and 21 of a verdict.
pub data Verdict : Type 0 where
  accepted overload : Verdict
  late : (length : ℕ) → Verdict

-- A row says what is wrong with a graph, how a sheet with its frame and load is judged, or which numbers a definition gives.
pub data Row : Type 0 where
  refused : Graph → Refusal → Row
  judged : (sheet : List Case) (frame load : ℕ) → Verdict → Row
  numbers : (given said : List ℕ) → Row

-- What each of these answers says of the graph.
unfoldable pub Refused : Graph → Refusal → Type 0
Refused g reach = ¬ Reached g
Refused g restless = ¬ AtRest g
Refused g (balance bound) = ¬ Balances g bound
Refused g (once q) = Repetition g (entries q) × (¬ Once g (entries q))
Refused g (deadlock q) = Repetition g (entries q) × Deadlock g (entries q)

-- The graph is sound, reached, once, free of deadlock and at rest, and its repetition numbers and skips are as said.
pub record Passes (c : Case) : Type 0 where
  pub sound : Sound c.graph
  pub reached : Reached c.graph
  pub repeats : Repetition c.graph (entries c.repetition)
  pub once : Once c.graph (entries c.repetition)
  pub lives : Lives c.graph (entries c.repetition)
  pub rest : AtRest c.graph
  pub skips : Skips c.graph (entries c.skip)

-- What each verdict says of load, frame and demand.
unfoldable pub Judged : Works → ℕ → Verdict → Type 0
Judged ws frame accepted = (load ws frame ≤ frame) × Within ws
Judged ws frame overload = frame < load ws frame
Judged ws frame (late t) = (load ws frame ≤ frame) × LateLength ws t

-- What a row claims.
unfoldable pub Holds : Row → Type 0
unfolding Refused Judged
Holds (refused g why) = Sound g × Refused g why
Holds (judged sheet frame sum verdict) =
    let ws = works sheet in
    ((i : ℕ) → i < ws.graphs → Passes (at sheet i)) × (Frame ws.graphs (λ i. (ws.work i).period) frame × ((load ws frame ≡ sum) × Judged ws frame verdict))
Holds (numbers given said) = given ≡ said

refused_or_not : (g : Graph) (why : Refusal) → Sound g → Decided (Refused g why)
unfolding Refused reached_or_not rest_or_not balances_or_not repetition_or_not once_or_not lives_or_not
refused_or_not g reach s = fails_or_not (reached_or_not g s)
refused_or_not g restless s = fails_or_not (rest_or_not g)
refused_or_not g (balance bound) s =
    elim (balances_or_not g s bound) [ inl r ↦ inr (λ n. n (r.0, r.1.balanced, r.2)) | inr n ↦ inl n ]
refused_or_not g (once q) s = both_or_not (repetition_or_not g s (entries q)) (fails_or_not (once_or_not g (entries q)))
refused_or_not g (deadlock q) s = both_or_not (repetition_or_not g s (entries q)) (fails_or_not (lives_or_not g s (entries q)))

passes_or_not : (c : Case) → Decided (Passes c)
unfolding sound_or_not reached_or_not skips_or_not repetition_or_not once_or_not lives_or_not rest_or_not
passes_or_not c =
    let g = c.graph in
    let q = entries c.repetition in
    same_or_not
    (λ (s, ((r, k), ((n, o), (l, a)))). record { sound = s; reached = r; skips = k; repeats = n; once = o; lives = l; rest = a })
    (λ p. (p.sound, ((p.reached, p.skips), ((p.repeats, p.once), (p.lives, p.rest)))))
    (then_or_not (sound_or_not g) (λ s. both_or_not
    (then_or_not (reached_or_not g s) (skips_or_not g s (entries c.skip)))
    (both_or_not (both_or_not (repetition_or_not g s q) (once_or_not g q)) (both_or_not (lives_or_not g s q) (rest_or_not g)))))

common_or_not : (n : ℕ) (p : ℕ → ℕ) (m : ℕ) → Decided (CommonMultiple n p m)
unfolding same_or_not both_or_not all_or_not le_or_not eq_or_ne
common_or_not n p m =
    same_or_not (λ x. record { positive = x.0; multiple = x.1 }) (λ c. (c.positive, c.multiple))
    (both_or_not (le_or_not 1 m) (all_or_not (λ i. same_or_not (dvd_iff_mod-eq-zero (p i)).1 (dvd_iff_mod-eq-zero (p i)).0 (eq_or_ne (m % p i) 0)) n))

frame_or_not : (n : ℕ) (p : ℕ → ℕ) (F : ℕ) → Decided (Frame n p F)
unfolding same_or_not both_or_not all_or_not fails_or_not common_or_not
frame_or_not n p F =
    same_or_not
    (λ x. record { common = x.0; least = λ m c. ⊎_elim (λ l. absurd (x.1 m l c)) (λ h. h) (lt_or_ge m F) })
    (λ f. (f.common, λ m l c. omega (arith, f.least m c)))
    (both_or_not (common_or_not n p F) (all_or_not (λ m. fails_or_not (common_or_not n p m)) F))

judged_or_not : (ws : Works) (F : ℕ) (v : Verdict) → Frame ws.graphs (λ i. (ws.work i).period) F → Decided (Judged ws F v)
unfolding Judged same_or_not both_or_not all_or_not fails_or_not le_or_not
judged_or_not ws F accepted f =
    let below = all_or_not (λ t. le_or_not (demand ws t) t) F in
    then_or_not (le_or_not (load ws F) F) (λ fits. same_or_not (within_exactly ws f.common fits).0 (within_exactly ws f.common fits).1 below)
judged_or_not ws F overload f = le_or_not (suc F) (load ws F)
judged_or_not ws F (late t) f =
    let smallest = all_or_not (λ u. fails_or_not (le_or_not (suc u) (demand ws u))) t in
    both_or_not (le_or_not (load ws F) F)
    (same_or_not (λ p. record { late = p.0; smallest = p.1 }) (λ l. (l.late, l.smallest)) (both_or_not (le_or_not (suc t) (demand ws t)) smallest))

numbers_or_not : (xs ys : List ℕ) → Decided (xs ≡ ys)
unfolding same_or_not both_or_not eq_or_ne
numbers_or_not [] [] = inl refl
numbers_or_not [] (y ∷ ys) = inr (λ e. let z : ◌≡◌ {A = ℕ} 0 1 = cc in omega arith)
numbers_or_not (x ∷ xs) [] = inr (λ e. let z : ◌≡◌ {A = ℕ} 0 1 = cc in omega arith)
numbers_or_not (x ∷ xs) (y ∷ ys) =
    same_or_not (λ p. ap₂ ◌∷◌ p.0 p.1) (λ e. (cc, cc)) (both_or_not (eq_or_ne x y) (numbers_or_not xs ys))

holds_or_not : (r : Row) → Decided (Holds r)
unfolding Holds refused_or_not passes_or_not frame_or_not judged_or_not numbers_or_not
holds_or_not (refused g why) = then_or_not (sound_or_not g) (refused_or_not g why)
holds_or_not (judged sheet frame sum verdict) =
    let ws = works sheet in
    both_or_not
    (all_or_not (λ i. passes_or_not (at sheet i)) ws.graphs)
    (then_or_not (frame_or_not ws.graphs (λ i. (ws.work i).period) frame) (λ f. both_or_not (eq_or_ne (load ws frame) sum) (judged_or_not ws frame verdict f)))
holds_or_not (numbers given said) = numbers_or_not given said

-- Every row of the list holds.
unfoldable pub Every : List Row → Type 0
unfolding Holds
Every [] = Unit {0}
Every (r ∷ rows) = Holds r × Every rows

every_or_not : (rows : List Row) → Decided (Every rows)
unfolding Every holds_or_not
every_or_not [] = inl tt
every_or_not (r ∷ rows) = both_or_not (holds_or_not r) (every_or_not rows)

-- 01's chain with tokens on 1→2, and the ring of E1 with tokens on 1→0.
abbrev chain : (tokens : ℕ) → Graph
chain tokens = drawn 3 (channel 0 1 3 1 0 ∷ channel 1 2 1 3 tokens ∷ [])

abbrev ring : (tokens : ℕ) → Graph
ring tokens = drawn 2 (channel 0 1 1 1 0 ∷ channel 1 0 1 1 tokens ∷ [])

abbrev chained : (tokens period deadline : ℕ) → Case
chained tokens period deadline =
    record { graph = chain tokens; period = period; deadline = deadline; times = 1 ∷ 2 ∷ 1 ∷ []; repetition = 1 ∷ 3 ∷ 1 ∷ []; skip = 0 ∷ tokens ∷ 0 ∷ [] }

abbrev C1 : Case
C1 = chained 2 8 4

abbrev E2 : Case
E2 = record { graph = ring 1; period = 5; deadline = 5; times = 1 ∷ 1 ∷ []; repetition = 1 ∷ 1 ∷ []; skip = 0 ∷ 0 ∷ [] }

-- 01's worked sheets and numbers: A, B1 to B4, C1, C2, E2, G1 and G2; C3, E1, F1, F2, F4 and F5; the numbers of C1.
unfoldable pub table : List Row
table =
    judged (single 3 10 10 ∷ []) 10 3 accepted
    ∷ judged (chained 0 10 8 ∷ []) 10 8 accepted
    ∷ judged (chained 0 10 7 ∷ []) 10 8 (late 7)
    ∷ judged (chained 0 7 8 ∷ []) 7 8 overload
    ∷ judged (chained 0 8 8 ∷ []) 8 8 accepted
    ∷ judged (C1 ∷ []) 8 8 accepted
    ∷ judged (chained 2 8 3 ∷ []) 8 8 (late 3)
    ∷ judged (E2 ∷ []) 5 2 accepted
    ∷ judged (single 3 10 10 ∷ single 4 15 5 ∷ []) 30 17 accepted
    ∷ judged (single 3 10 6 ∷ single 4 15 5 ∷ []) 30 17 (late 6)
    ∷ refused (chain 3) restless
    ∷ refused (ring 0) (deadlock (1 ∷ 1 ∷ []))
    ∷ refused (drawn 2 (channel 0 1 1 1 0 ∷ channel 0 1 2 1 0 ∷ [])) (balance max_repetition)
    ∷ refused (drawn 2 (channel 0 1 2 3 0 ∷ [])) (once (3 ∷ 2 ∷ []))
    ∷ refused (drawn 3 (channel 0 1 4096 1 0 ∷ channel 1 2 2 1 0 ∷ [])) (balance max_repetition)
    ∷ refused (drawn 2 []) reach
    ∷ numbers (map (λ K. fewest (work C1).repetition (work C1).skip K 1) (0 ∷ 1 ∷ 2 ∷ [])) (0 ∷ 1 ∷ 4 ∷ [])
    ∷ numbers (map (demand (works (C1 ∷ []))) (3 ∷ 4 ∷ 11 ∷ 12 ∷ [])) (0 ∷ 4 ∷ 4 ∷ 12 ∷ [])
    ∷ numbers (task_numbers (tasks (work C1))) (1 ∷ 4 ∷ 8 ∷ 2 ∷ 4 ∷ 8 ∷ 4 ∷ 12 ∷ 8 ∷ 1 ∷ 4 ∷ 8 ∷ [])
    ∷ numbers (map (due C1.period C1.deadline) (3 ∷ 4 ∷ [])) (0 ∷ 1 ∷ [])
    ∷ []

-- Every row of the table holds.
pub worked : Every table
unfolding every_or_not test table fewest demand cost blocks due sum_to load iteration tasks tasks_to actor_tasks task_numbers
worked = test_right (every_or_not table) tt
