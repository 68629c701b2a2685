-- 01, Demand, piece by piece: between the counts of blocks at which an actor uses up its skip, each block adds the same.
use Rattle.std.specs.Prelude.{◌≡◌, ◌↔◌, List, ℕ, ◌+◌, ◌*◌, ◌-◌, ◌^◌, ◌<◌, ◌≤◌, length, get_or}
use Rattle.edf.specs.Arrivals.{due}
use Rattle.edf.specs.Demand.{Work, Works, cost}
use Rattle.piece.specs.declared as code

-- From `low` to `high` blocks due a graph asks `each` for every block, less `behind`; that fits 64 bits.
abbrev pub Piece : Work → (low high each behind : ℕ) → Type 0
Piece w low high each behind = (K : ℕ) → low ≤ K → K ≤ high → (cost w K + behind ≡ K * each) × (K * each < 2 ^ 64)

-- From `low` to `high` blocks due a graph asks the same.
abbrev pub Level : Work → (low high asks : ℕ) → Type 0
Level w low high asks = (K : ℕ) → low ≤ K → K ≤ high → cost w K ≡ asks

-- In the lengths from `from` on and below `to` a graph asks the same.
abbrev pub Span : Work → (from to asks : ℕ) → Type 0
Span w from to asks = (t : ℕ) → from ≤ t → t < to → cost w (due w.period w.deadline t) ≡ asks

-- r is the smallest length in which k blocks are due.
abbrev pub First : (T D k r : ℕ) → Type 0
First T D k r = (t : ℕ) → (r ≤ t) ↔ (k ≤ due T D t)

-- Down from a span that starts at `from`, each period that starts at `bottom` or later is a span in which a graph asks `each` less.
abbrev pub Stairs : Work → (each bottom from asks : ℕ) → Type 0
Stairs w each bottom from asks = (n f : ℕ) → 0 < n → f + n * w.period ≡ from → bottom ≤ f
    → (n * each ≤ asks) × Span w f (f + w.period) (asks - n * each)

-- What is said to stand past the end of the list.
abbrev pub unknown : code.Known.Known
unknown = record { piece = record { low = 0; high = 0; each = 0; behind = 0 }; from = 0; to = 0; asks = 0; bottom = 0 }

-- What is known of each graph is one of its pieces, one of its spans and how far down that can step; those that cover nothing say
-- nothing.
pub record Pieces (ws : Works) (pieces : List code.Known.Known) : Type 0 where
  pub there : ws.graphs ≤ length pieces
  pub piece : (i : ℕ) → i < ws.graphs → let p = (get_or pieces i unknown).piece in Piece (ws.work i) p.low p.high p.each p.behind
  pub span : (i : ℕ) → i < ws.graphs → let k = get_or pieces i unknown in Span (ws.work i) k.from k.to k.asks
  pub down : (i : ℕ) → i < ws.graphs → let k = get_or pieces i unknown in Stairs (ws.work i) k.piece.each k.bottom k.from k.asks

-- A piece that covers k blocks due can take in one actor more: the numbers fit.
pub record Joins (p : code.Piece.Piece) (time repetition skip k : ℕ) : Type 0 where
  pub from : p.low ≤ k
  pub to : k ≤ p.high
  pub repetition_low : 0 < repetition
  pub firings : k * repetition < 2 ^ 64
  pub each : p.each + time * repetition < 2 ^ 64
  pub behind : p.behind + time * skip < 2 ^ 64

-- The piece p and one actor more: r covers k too, is no wider, and has at each of its counts more what the actor asks.
pub record Joined (p : code.Piece.Piece) (time repetition skip k : ℕ) (r : code.Piece.Piece) : Type 0 where
  pub low : p.low ≤ r.low
  pub high : r.high ≤ p.high
  pub from : r.low ≤ k
  pub to : k ≤ r.high
  pub each : r.each ≤ p.each + time * repetition
  pub behind : r.behind ≤ p.behind + time * skip
  pub adds : (K : ℕ) → r.low ≤ K → K ≤ r.high → time * (K * repetition - skip) + r.behind + K * p.each ≡ K * r.each + p.behind
