-- 01, answer 21: from which length on none can be late, and what the search below it answers.
use Rattle.std.specs.Prelude.{◌≡◌, ◌⊎◌, ℕ, zero, suc, ◌+◌, ◌*◌, ◌-◌, ◌/◌, ◌<◌, ◌≤◌, Option, Some, None, Result, Ok, Err}
use Rattle.std.specs.Int.{◌∣◌}
use Rattle.units.specs.Bounds.{max_ticks}
use Rattle.units.specs.declared.Ticks.{Ticks}
use Rattle.edf.specs.Demand.{Works, demand, iteration, Late, LateLength, Within}
use Rattle.edf.proofs.Demand.{WithinBelow}
use Rattle.late.specs.declared.search.Open.{Open}

-- A period that counts only where there is weight.
unfoldable pub counted : (period weight : ℕ) → ℕ
counted period zero = 1
counted period (suc w) = period

-- The period of graph i as it counts for the search: 1, which divides every length, where its iteration takes no time.
abbrev pub busy_period : Works → ℕ → ℕ
busy_period ws i = counted (ws.work i).period (iteration (ws.work i))

-- The part `span` of the frame is enough for the search: every period divides it but those of graphs whose iteration takes no time,
-- which ask for nothing.
pub record Carries (ws : Works) (frame span : ℕ) : Type 0 where
  pub positive : 0 < span
  pub divides : span ∣ frame
  pub each : (i : ℕ) → i < ws.graphs → ((ws.work i).period ∣ span) ⊎ (iteration (ws.work i) ≡ 0)

-- The share of graph i in the frame load × (T − D), or 0 where that is negative: by so much frame × demand of the graph may be above
-- its share × length.
abbrev pub graph_surplus : Works → ℕ → ℕ → ℕ
graph_surplus ws frame i = frame / (ws.work i).period * iteration (ws.work i) * ((ws.work i).period - (ws.work i).deadline)

-- No length from `end` on needs a look: it is the frame, or load × length and the surplus are there below frame × (length + 1).
pub record End (frame load surplus end : ℕ) : Type 0 where
  pub high : end ≤ frame
  pub enough : (end ≡ frame) ⊎ (load * end + surplus < frame * (end + 1))

-- The search may stop at `end`: if demand is within every length below it, it is within every length.
pub record SearchEnd (ws : Works) (end : ℕ) : Type 0 where
  pub high : end ≤ max_ticks
  pub enough : WithinBelow ws end → Within ws

-- Demand is within every length from `low` on that is below `high`.
abbrev pub WithinFrom : Works → (low high : ℕ) → Type 0
WithinFrom ws low high = (t : ℕ) → low ≤ t → t < high → demand ws t ≤ t

-- A glance at t: if r is at most t, no length from r on to t is late.
abbrev pub Glanced : Works → (t r : ℕ) → Type 0
Glanced ws t r = r ≤ t → WithinFrom ws r (t + 1)

-- A look at t: the same, and if r is above t, t is late.
abbrev pub Leapt : Works → (t r : ℕ) → Type 0
Leapt ws t r = (t < r → Late ws t) × Glanced ws t r

-- A late length below `high`, or that none from `low` on is.
abbrev pub Settled : Works → (low high : ℕ) → Option Ticks → Type 0
Settled ws low high (Some t) = Late ws t.n × (t.n < high)
Settled ws low high None = WithinFrom ws low high

-- The same, or that there are more lengths than looks.
abbrev pub SettleAnswer : Works → (low high looks : ℕ) → Result (Option Ticks) Open → Type 0
SettleAnswer ws low high looks (Ok settled) = Settled ws low high settled
SettleAnswer ws low high looks (Err _) = looks < high

-- The smallest late length, or that demand is within every length below `end`.
abbrev pub SearchAnswer : Works → (end : ℕ) → Option Ticks → Type 0
SearchAnswer ws end (Some t) = LateLength ws t.n
SearchAnswer ws end None = WithinBelow ws end

-- The same, or that there are more lengths than looks.
abbrev pub FoundAnswer : Works → (end looks : ℕ) → Result (Option Ticks) Open → Type 0
FoundAnswer ws end looks (Ok found) = SearchAnswer ws end found
FoundAnswer ws end looks (Err _) = looks < end
