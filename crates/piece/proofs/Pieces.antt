-- 01, Demand, piece by piece: how an actor joins a piece, and that the pieces stay pieces as they are stored.
use mathlib.Core.Path.{◌≡◌, ◌∙◌, ap, refl, sym}
use mathlib.Core.Logic.{⊎_elim, ◌≢◌}
use mathlib.Core.List.{List}
use Prim.Native.Nat.{ℕ, ◌+◌, ◌*◌, ◌-◌, ◌<◌, ◌≤◌, max}
use native.Mathlib.Nat.{le_refl, le_trans, le_antisymm, lt_of_le_of_lt, sub-add_cancel, mul-le-mul, mul-le-mul_right, lt_of_mul-lt-mul_left, lt_of_mul-lt-mul_right}
use native.Mathlib.Nat.{le-max_left, le-max_right, max-le}
use native.Mathlib.Omega.{arith}
use lib.Dec.{lit<}
use Rattle.std.specs.Int.{div_ceil}
use Rattle.std.proofs.lemmas.Grind.{div_ceil_times}
use lib.ListN.{get_or, set, length-set}
use lib.Seq.{get_or-set_same, get_or-set_other}
use Rattle.units.specs.Bounds.{max_ticks}
use Rattle.sdf.specs.Sum.{sum_to}
use Rattle.sdf.proofs.Numbers.{lt_or_ge, eq_or_ne}
use Rattle.edf.specs.Arrivals.{due}
use Rattle.edf.specs.Bounds.{Bounded}
use Rattle.edf.specs.Demand.{Work, Works, cost}
use Rattle.edf.proofs.Blocks.{due_at_most, due_reaches}
use Rattle.edf.proofs.Fits.{iteration_to, skipped_to, iteration_at_most, fits_iteration_to, fits_skipped, fits_fewest}
use Rattle.piece.specs.Pieces.{Piece, Level, Span, Stairs, First, unknown, Pieces, Joins, Joined}
use Rattle.piece.specs.declared as code
use Rattle.demand.proofs.Sums.{next_term}
use Rattle.demand.proofs.Costs.{actor_cost, actor_time, cost_whole}

-- An actor that has used up its skip with k blocks asks for each block the same from the quotient rounded up on.
pub joined_busy : {p : code.Piece.Piece} {t q s k l : ℕ} → Joins p t q s k → s ≤ k * q → l ≡ max p.low (div_ceil s q)
    → Joined p t q s k (record { low = l; high = p.high; each = p.each + t * q; behind = p.behind + t * s })
joined_busy {p} {t} {q} {s} {k} {l} j h e = record {
  low = omega (arith, le-max_left p.low (div_ceil s q));
  high = le_refl p.high;
  from = rw e (max-le j.from (omega (arith, lt_of_mul-lt-mul_right q {m = div_ceil s q} {n = k + 1} (omega (arith, up.1)))));
  to = j.to;
  each = le_refl (p.each + t * q);
  behind = le_refl (p.behind + t * s);
  adds = λ K m _. omega (arith, ap (λ (x : ℕ). t * x) (sub-add_cancel (enough K m)));
}
  where
    up : (s ≤ div_ceil s q * q) × (div_ceil s q * q < s + q)
    up = div_ceil_times s q j.repetition_low

    enough : (K : ℕ) → l ≤ K → s ≤ K * q
    enough K m = le_trans up.0 (mul-le-mul_right q (omega (arith, le-max_right p.low (div_ceil s q))))

-- p covers k blocks due and is a piece of the first v actors.
pub record PieceTo (w : Work) (v k : ℕ) (p : code.Piece.Piece) : Type 0 where
  pub from : p.low ≤ k
  pub to : k ≤ p.high
  pub high : p.high ≤ max_ticks
  pub each : p.each ≤ iteration_to w v
  pub behind : p.behind ≤ skipped_to w v
  pub line : (K : ℕ) → p.low ≤ K → K ≤ p.high → sum_to (actor_cost w K) v + p.behind ≡ K * p.each

-- No actor asks for anything, in any number of blocks.
pub piece_start : (w : Work) {k : ℕ} → k ≤ max_ticks → PieceTo w 0 k (record { low = 0; high = max_ticks; each = 0; behind = 0 })
unfolding sum_to
piece_start w h = record {
  from = omega arith;
  to = h;
  high = le_refl max_ticks;
  each = omega arith;
  behind = omega arith;
  line = λ K _ _. omega arith;
}

module _ {w : Work} (b : Bounded w) {v k : ℕ} {p : code.Piece.Piece} (t : PieceTo w v k p) where
  -- Actor v can join the piece of those before it.
  pub piece_joins : v < w.actors → Joins p (w.time v) (w.repetition v) (w.skip v) k
  piece_joins m = record {
    from = t.from;
    to = t.to;
    repetition_low = b.repetition_low v m;
    firings = fits_fewest b (omega (arith, t.to, t.high)) m;
    each = omega (arith, t.each, next_term (actor_time w) v, fits_iteration_to b {n = v + 1} (omega arith));
    behind = omega (arith, t.behind, next_term (λ u. w.time u * w.skip u) v, fits_skipped b {n = v + 1} (omega arith));
  }

  -- With it, the piece is one of an actor more.
  pub piece_turn : {r : code.Piece.Piece} → Joined p (w.time v) (w.repetition v) (w.skip v) k r → PieceTo w (v + 1) k r
  piece_turn {r} j = record {
    from = j.from;
    to = j.to;
    high = le_trans j.high t.high;
    each = omega (arith, j.each, t.each, next_term (actor_time w) v);
    behind = omega (arith, j.behind, t.behind, next_term (λ u. w.time u * w.skip u) v);
    line = λ K l h. omega (arith, j.adds K l h, t.line K (le_trans j.low l) (le_trans h j.high), next_term (actor_cost w K) v);
  }

  -- A piece of all actors is one of the graph.
  pub piece_whole : v ≡ w.actors → (p.low ≤ k) × (k ≤ p.high) × Piece w p.low p.high p.each p.behind
  piece_whole m = (
    t.from,
    t.to,
    λ K l h. (
      omega (arith, t.line K l h, cost_whole w m K refl),
      lt_of_le_of_lt (mul-le-mul (le_trans h t.high) (le_trans t.each (iteration_at_most b (omega (arith, m))))) (lit< tt),
    ),
  )

-- So many blocks are due in a length that a piece can be asked for them.
pub blocks_few : {w : Work} {t k d : ℕ} → Bounded w → t ≤ max_ticks → k ≡ d → d ≡ due w.period w.deadline t → k ≤ max_ticks
blocks_few {w} {t} g h m e = omega (arith, due_at_most w.period w.deadline t g.deadline_low)

-- On a piece that covers k blocks due a graph asks `each` for every block, less `behind`.
pub piece_asks : (w : Work) (each behind : ℕ) {k low high : ℕ} → Piece w low high each behind → low ≤ k → k ≤ high
    → k * each - behind ≡ cost w k
piece_asks w each behind {k} p l h = let e = p k l h in omega arith

positive : {k : ℕ} → k ≢ 0 → 0 < k
positive {k} n = ⊎_elim (λ (h : k < 1). absurd (n (omega arith))) (λ h. h) (lt_or_ge k 1)

-- The first is due in the deadline, and each later one a period after the one before: in lengths with a period added,
pub first_sum : (T D : ℕ) {k : ℕ} → k ≢ 0 → D + (k - 1) * T + T ≡ D + k * T
first_sum T D {k} n = let some : k - 1 + 1 ≡ k = sub-add_cancel (positive n) in omega (arith, ap (λ (x : ℕ). x * T) some)

first_at : (T D k : ℕ) {r : ℕ} → 0 < T → 0 < k → r + T ≡ D + k * T → First T D k r
first_at T D k p l e t = (λ h. (due_reaches T D k t p).1 (omega arith), λ h. omega (arith, (due_reaches T D k t p).0 h, mul-le-mul_right T l))

-- and as it is computed.
pub first_some : (T D : ℕ) {k : ℕ} → 0 < T → k ≢ 0 → First T D k (D + (k - 1) * T)
first_some T D {k} p n = first_at T D k p (positive n) (first_sum T D n)

-- What is the same from `low` to `high` blocks due is the same in the lengths that have so many.
pub level_span : (w : Work) {low high asks from to : ℕ} → Level w low high asks → First w.period w.deadline low from
    → First w.period w.deadline (high + 1) to → Span w from to asks
level_span w {high = high} v f g t l h = v _ ((f t).0 l)
    (⊎_elim (λ m. absurd (omega (arith, (g t).1 (omega arith)))) (λ m. m) (lt_or_ge high (due w.period w.deadline t)))

-- It is for one count,
pub level_one : (w : Work) {k asks : ℕ} → asks ≡ cost w k → Level w k k asks
level_one w {k} e K l h = ap (cost w) (le_antisymm h l) ∙ sym e

-- and on a piece with nothing for each block.
pub level_none : (w : Work) (k behind : ℕ) {low high each h : ℕ} → Piece w low high each behind → each ≡ 0 → h ≤ high
    → Level w low h (k * each - behind)
level_none w k behind p z m K l h =
    omega (arith, (p K l (le_trans h m)).0, ap (λ (x : ℕ). K * x) z, ap (λ (x : ℕ). k * x) z)

-- No step leads down from a span that starts at the bottom or before it.
stairs_none : (w : Work) (each asks : ℕ) {bottom from : ℕ} → 0 < w.period → from ≤ bottom → Stairs w each bottom from asks
stairs_none w each asks p h n f l e m = absurd (omega (arith, mul-le-mul_right w.period l))

-- From the span of k blocks the steps lead down to the fewest blocks that the piece covers, but for none.
pub stairs_piece : (w : Work) (k each behind c : ℕ) {low high asks bottom from : ℕ} → 0 < w.period → Piece w low high each behind → k ≤ high
    → cost w k ≡ asks → First w.period w.deadline k from × (k ≢ 0 → from + w.period ≡ w.deadline + k * w.period)
    → c ≡ max low 1 → First w.period w.deadline c bottom × (c ≢ 0 → bottom + w.period ≡ w.deadline + c * w.period) → Stairs w each bottom from asks
stairs_piece w k each behind c {low} {high} {asks} {bottom} {from} p pc kh e g m h n f np fe bf = ⊎_elim
    (λ (z : k ≡ 0). absurd (omega (arith, (g.0 0).1 (omega arith), mul-le-mul_right w.period np)))
    (λ z. steps (g.1 z))
    (eq_or_ne k 0)
  where
    steps : from + w.period ≡ w.deadline + k * w.period → (n * each ≤ asks) × Span w f (f + w.period) (asks - n * each)
    steps q =
        let lc : low ≤ c = omega (arith, le-max_left low 1, m) in
        let cp : 0 < c = omega (arith, le-max_right low 1, m) in
        let bc : bottom + w.period ≡ w.deadline + c * w.period = h.1 (λ z. omega arith) in
        let under : w.period * (c + n) < w.period * (k + 1) = omega (arith, p) in
        let few : c + n < k + 1 = lt_of_mul-lt-mul_left w.period under in
        let K : ℕ = k - n in
        let sum : K + n ≡ k = sub-add_cancel (omega arith) in
        let place : K * w.period + n * w.period ≡ k * w.period = omega (arith, ap (λ (x : ℕ). x * w.period) sum) in
        let price : K * each + n * each ≡ k * each = omega (arith, ap (λ (x : ℕ). x * each) sum) in
        let here = (pc K (omega arith) (omega arith)).0 in
        let top = (pc k (omega arith) kh).0 in (
          omega arith,
          level_span w (level_one w {k = K} (omega arith)) (first_at w.period w.deadline K p (omega arith) (omega arith))
              (first_at w.period w.deadline (K + 1) p (omega arith) (omega arith)),
        )

-- What is known of graph i is stored: it is there, and the pieces are pieces.
known_stored : {ws : Works} {pieces : List code.Known.Known} {i : ℕ} (k : code.Known.Known) → Pieces ws pieces → i < ws.graphs
    → Piece (ws.work i) k.piece.low k.piece.high k.piece.each k.piece.behind → Span (ws.work i) k.from k.to k.asks
    → Stairs (ws.work i) k.piece.each k.bottom k.from k.asks
    → Pieces ws (set pieces i k) × (get_or (set pieces i k) i unknown ≡ k)
known_stored {ws} {pieces} {i} k ps m p s d =
    let same = get_or-set_same pieces i k unknown (omega (arith, ps.there)) in (
      record {
        there = omega (arith, ps.there, length-set pieces i k);
        piece = λ j l. ⊎_elim (λ (h : j ≡ i). rw (h, same) p) (λ n. rw (other j n) (ps.piece j l)) (eq_or_ne j i);
        span = λ j l. ⊎_elim (λ (h : j ≡ i). rw (h, same) s) (λ n. rw (other j n) (ps.span j l)) (eq_or_ne j i);
        down = λ j l. ⊎_elim (λ (h : j ≡ i). rw (h, same) d) (λ n. rw (other j n) (ps.down j l)) (eq_or_ne j i);
      },
      same,
    )
  where
    other : (j : ℕ) → j ≢ i → get_or (set pieces i k) j unknown ≡ get_or pieces j unknown
    other j n = get_or-set_other pieces i j k unknown (λ e. n (omega arith))

-- A piece of graph i that covers k is stored: the pieces are pieces, and that of graph i covers k.
pub pieces_stored : {ws : Works} {pieces : List code.Known.Known} {i k : ℕ} (p : code.Piece.Piece) → Pieces ws pieces → i < ws.graphs
    → 0 < (ws.work i).period → (p.low ≤ k) × (k ≤ p.high) × Piece (ws.work i) p.low p.high p.each p.behind
    → let known = get_or pieces i unknown in
    let after = set pieces i (record known { piece = p; bottom = known.from }) in
    Pieces ws after × ((get_or after i unknown).piece.low ≤ k) × (k ≤ (get_or after i unknown).piece.high)
pieces_stored {ws} {pieces} {i} p ps m pos h =
    let known = get_or pieces i unknown in
    let r = known_stored (record known { piece = p; bottom = known.from }) ps m h.2 (ps.span i m) (stairs_none (ws.work i) _ _ pos (le_refl known.from)) in
    (r.0, rw r.1 h.0, rw r.1 h.1)

-- A span of graph i and the steps down from it are stored: the pieces are pieces.
pub span_stored : {ws : Works} {pieces : List code.Known.Known} {i from to asks bottom : ℕ} → Pieces ws pieces → i < ws.graphs
    → Span (ws.work i) from to asks → Stairs (ws.work i) (get_or pieces i unknown).piece.each bottom from asks
    → Pieces ws (set pieces i (record { piece = (get_or pieces i unknown).piece; from = from; to = to; asks = asks; bottom = bottom }))
span_stored {i = i} ps m h d = (known_stored _ ps m (ps.piece i m) h d).0

-- One step down from the span of graph i.
pub record Stepped (w : Work) (known : code.Known.Known) (from : ℕ) : Type 0 where
  pub less : known.piece.each ≤ known.asks
  pub span : Span w from known.from (known.asks - known.piece.each)
  pub down : Stairs w known.piece.each known.bottom from (known.asks - known.piece.each)

-- It is there where the bottom is not below.
pub stepped : {ws : Works} {pieces : List code.Known.Known} {i : ℕ} (from : ℕ) → Pieces ws pieces → i < ws.graphs
    → from + (ws.work i).period ≡ (get_or pieces i unknown).from → (get_or pieces i unknown).bottom ≤ from
    → Stepped (ws.work i) (get_or pieces i unknown) from
stepped {ws} {pieces} {i} from ps m e b =
    let s = ps.down i m 1 from (lit< tt) (omega arith) b in
    record {
      less = omega (arith, s.0);
      span = λ t l h. omega (arith, s.1 t l (omega arith));
      down = λ n f p g l.
          let r = ps.down i m (n + 1) f (omega arith) (omega arith) l in
          (omega (arith, r.0), λ t v u. omega (arith, r.1 t v u));
    }

-- The step is stored: the pieces are pieces, and the span is the period below.
pub step_stored : {ws : Works} {pieces : List code.Known.Known} {i from t : ℕ} → Pieces ws pieces → i < ws.graphs
    → Stepped (ws.work i) (get_or pieces i unknown) from → from ≤ t → t < (get_or pieces i unknown).from
    → let known = get_or pieces i unknown in
    let after = set pieces i (record known { from = from; to = known.from; asks = known.asks - known.piece.each }) in
    Pieces ws after × (((get_or after i unknown).from ≤ t) × (t < (get_or after i unknown).to))
step_stored {ws} {pieces} {i} {from} ps m d l h =
    let known = get_or pieces i unknown in
    let r = known_stored (record known { from = from; to = known.from; asks = known.asks - known.piece.each }) ps m (ps.piece i m) d.span d.down in
    (r.0, (rw r.1 l, rw r.1 h))
