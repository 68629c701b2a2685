-- Sets as the bits of a number: what the operations on words do to them.
use mathlib.Core.Path.{◌≡◌, refl, sym, ap, ap₂, ◌∙◌, subst}
use mathlib.Core.Logic.{◌⊎◌, inl, inr, ⊎_elim, ◌≢◌}
use mathlib.Core.Bool.{Bool, true, false, cond}
use Prim.Native.Nat.{ℕ, zero, suc, ◌+◌, ◌-◌, ◌*◌, ◌/◌, ◌%◌, ◌^◌, ◌≤◌, ◌<◌, min, max}
use native.Mathlib.Nat.{pow-suc, pow-zero, div-one, zero-div, div-eq_of_lt, div-eq_of_lt-le, div-div-eq-div-mul, mul_comm, mod-lt, le_refl, lt_of_lt_of_le, eq-zero-or-pos, mul-le-mul_right}
use native.Mathlib.Omega.{arith}
use lib.ListN.{set}
use lib.Arith.{digits_mod}
use lib.Pow.{pow_pos, pow_mono, pow-lt, ones_split, high, ones_lt, shl_exact}
use lib.Bits.{bit_and, bit_or, or_step, and_step, or_shr, and_shr}
use lib.Count.{count_leading_zeros, count_trailing_zeros, under, leading_top}
use lib.Dec.{eqb}
use mir.Val.{bool_byte}
use borrow.Author.Tests.{eqb-true, eqb-false}
use Rattle.sdf.proofs.Numbers.{lt_or_ge}
use Rattle.sets.specs.Decides.{Decides}
use Rattle.sets.specs.Sets.{has, Covers, Below, Put}

-- The lowest bit says whether 0 is in the set.
pub has_zero : (set : ℕ) → has set 0 ≡ set % 2
unfolding has
has_zero set = rw (pow-zero 2, div-one set)

-- The others are in the set's half, each one place lower.
pub has_suc : (set v : ℕ) → has set (suc v) ≡ has (set / 2) v
unfolding has
has_suc set v = rw (pow-suc 2 v, mul_comm (2 ^ v) 2, ← (div-div-eq-div-mul set 2 (2 ^ v)))

-- Nobody is in the empty set.
pub has_none : (v : ℕ) → has 0 v ≡ 0
unfolding has
has_none v = rw (zero-div (2 ^ v))

-- An actor is in the set once or not at all.
pub has_small : (set v : ℕ) → has set v < 2
unfolding has
has_small set v = mod-lt (set / 2 ^ v) (omega arith)

-- An actor is in the set or not.
pub has_bit : (set v : ℕ) → (has set v ≡ 0) ⊎ (has set v ≡ 1)
has_bit set v = ⊎_elim (λ e. inl e) (λ l. inr (omega (arith, has_small set v))) (eq-zero-or-pos (has set v))

-- Who is in a set of k bits is below k.
pub has_below : {set v : ℕ} (k : ℕ) → set < 2 ^ k → has set v ≡ 1 → v < k
unfolding has
has_below {set} {v} k l h = ⊎_elim
    (λ b. b)
    (λ g. absurd (omega (arith, ap (λ (x : ℕ). x % 2) (div-eq_of_lt {n = set} {m = 2 ^ v} (lt_of_lt_of_le l (pow_mono g))))))
    (lt_or_ge v k)

-- Who is not below k is not in a set of k bits.
pub has_past : {set v : ℕ} (k : ℕ) → set < 2 ^ k → k ≤ v → has set v ≡ 0
has_past {set} {v} k l g = ⊎_elim (λ z. z) (λ h. absurd (omega (arith, has_below {set = set} {v = v} k l h))) (has_bit set v)

-- Two sets with the same actors are the same, counted down.
same_up : (n a b : ℕ) → a ≤ n → b ≤ n → ((v : ℕ) → has a v ≡ has b v) → a ≡ b
same_up zero a b k l h = omega arith
same_up (suc n) a b k l h =
    omega (arith, same_up n (a / 2) (b / 2) (omega arith) (omega arith) (λ v. sym (has_suc a v) ∙ h (suc v) ∙ has_suc b v), sym (has_zero a) ∙ h 0 ∙ has_zero b)

-- Two sets with the same actors are the same.
pub has_same : {a b : ℕ} → ((v : ℕ) → has a v ≡ has b v) → a ≡ b
has_same {a} {b} h = same_up (a + b) a b (omega arith) (omega arith) h

-- A set that has all of another is no smaller, counted down.
le_up : (n a b : ℕ) → a ≤ n → ((v : ℕ) → has a v ≤ has b v) → a ≤ b
le_up zero a b k h = omega arith
le_up (suc n) a b k h =
    let half : a / 2 ≤ b / 2 = le_up n (a / 2) (b / 2) (omega arith) (λ v. omega (arith, has_suc a v, has_suc b v, h (suc v))) in
    omega (arith, has_zero a, has_zero b, h 0)

-- A set that has all of another is no smaller.
pub has_le : {a b : ℕ} → ((v : ℕ) → has a v ≤ has b v) → a ≤ b
has_le {a} {b} h = le_up a a b (le_refl a) h

-- A set in which nobody is, is empty.
pub has_empty : {set : ℕ} → ((v : ℕ) → has set v ≡ 0) → set ≡ 0
has_empty h = has_same (λ v. h v ∙ sym (has_none v))

-- A set that is not empty has its highest bit's actor.
pub has_top : {set : ℕ} (j : ℕ) → 2 ^ j ≤ set → set < 2 ^ suc j → has set j ≡ 1
unfolding has
has_top {set} j g l = rw (div-eq_of_lt-le {k = 1} (2 ^ j) {m = set} (omega arith) (omega (arith, pow-suc 2 j)))

-- Joined sets.
pub has_or : (a b v : ℕ) → has (bit_or a b) v ≡ max (has a v) (has b v)
unfolding has
has_or a b v =
    ap (λ (x : ℕ). x % 2) (or_shr a b v ∙ or_step (a / 2 ^ v) (b / 2 ^ v))
    ∙ digits_mod (bit_or (a / 2 ^ v / 2) (b / 2 ^ v / 2)) (omega (arith, has_small a v, has_small b v))

-- What two sets have in common.
pub has_and : (a b v : ℕ) → has (bit_and a b) v ≡ min (has a v) (has b v)
unfolding has
has_and a b v =
    ap (λ (x : ℕ). x % 2) (and_shr a b v ∙ and_step (a / 2 ^ v) (b / 2 ^ v))
    ∙ digits_mod (bit_and (a / 2 ^ v / 2) (b / 2 ^ v / 2)) (omega (arith, has_small a v, has_small b v))

-- Two sets that add up to all k bits: who is not in the one is in the other.
pub has_other : (k v a b : ℕ) → v < k → a + b + 1 ≡ 2 ^ k → has a v + has b v ≡ 1
has_other zero v a b l e = absurd (omega arith)
has_other (suc k) zero a b l e = omega (arith, has_zero a, has_zero b, pow-suc 2 k)
has_other (suc k) (suc v) a b l e =
    ap₂ (λ (x y : ℕ). x + y) (has_suc a v) (has_suc b v) ∙ has_other k v (a / 2) (b / 2) (omega arith) (omega (arith, pow-suc 2 k))

-- One set without another, as the code takes it away.
pub has_minus : (a b v : ℕ) → a < 2 ^ 64 → b < 2 ^ 64 → has (bit_and a (2 ^ 64 - 1 - b)) v ≡ has a v - has b v
has_minus a b v la lb = has_and a (2 ^ 64 - 1 - b) v ∙ ⊎_elim
    (λ l. omega (arith, has_other 64 v b (2 ^ 64 - 1 - b) l (omega arith), has_small a v))
    (λ g. omega (arith, has_past {set = a} {v = v} 64 la g))
    (lt_or_ge v 64)

-- All that are below n.
pub all_covers : (n : ℕ) → Covers (2 ^ n - 1) n
all_covers n v l = omega (arith, has_other n v (2 ^ n - 1) 0 l (omega (arith, pow_pos n)), has_none v)

-- And nobody else.
pub all_below : (n : ℕ) → Below (2 ^ n - 1) n
all_below n v h = has_below {v = v} n (ones_lt n) h

-- The set of all below n, as the code makes it.
pub all_made : (n : ℕ) → n ≤ 64 → (2 ^ 64 - 1) / 2 ^ (64 - n) ≡ 2 ^ n - 1
all_made n l =
    let e : n + (64 - n) ≡ 64 = omega arith in
    ap (λ (x : ℕ). (2 ^ x - 1) / 2 ^ (64 - n)) (sym e) ∙ ap (λ (x : ℕ). x / 2 ^ (64 - n)) (ones_split n (64 - n)) ∙ high (2 ^ n - 1) (64 - n) (ones_lt (64 - n))

-- It has all below n and nobody else.
pub all_holds : (n : ℕ) → n ≤ 64 → Covers ((2 ^ 64 - 1) / 2 ^ (64 - n)) n × Below ((2 ^ 64 - 1) / 2 ^ (64 - n)) n
all_holds n l = subst (λ (x : ℕ). Covers x n × Below x n) (sym (all_made n l)) (all_covers n, all_below n)

-- Nobody is left of all below n without a set, exactly if the set has them all.
pub covers_empty : (every set left n : ℕ) → Covers every n × Below every n → ((v : ℕ) → has left v ≡ has every v - has set v) → Decides (eqb left 0) (Covers set n)
covers_empty every set left n a h = go (eqb left 0) refl
  where
    go : (t : Bool) → eqb left 0 ≡ t → Decides t (Covers set n)
    go true e = λ v l.
        omega (arith, a.0 v l, h v, ap (λ (x : ℕ). has x v) (eqb-true left 0 e), has_none v, has_small set v)
    go false e = λ k. eqb-false left 0 e (has_empty (λ v. ⊎_elim
        (λ z. omega (arith, h v))
        (λ o. omega (arith, h v, k v (a.1 v o)))
        (has_bit every v)))

-- A bit at v is there.
pub bit_here : (bit v : ℕ) → bit < 2 → has (bit * 2 ^ v) v ≡ bit
bit_here bit zero l = omega (arith, has_zero (bit * 2 ^ 0))
bit_here bit (suc v) l =
    let e : bit * 2 ^ suc v / 2 ≡ bit * 2 ^ v = omega (arith, ap (λ (x : ℕ). bit * x) (pow-suc 2 v)) in
    has_suc (bit * 2 ^ suc v) v ∙ ap (λ (x : ℕ). has x v) e ∙ bit_here bit v l

-- And nowhere else.
pub bit_there : (bit v w : ℕ) → bit < 2 → w ≢ v → has (bit * 2 ^ v) w ≡ 0
bit_there bit zero zero l d = absurd (d refl)
bit_there bit zero (suc w) l d =
    let e : bit * 2 ^ 0 / 2 ≡ 0 = omega arith in
    has_suc (bit * 2 ^ 0) w ∙ ap (λ (x : ℕ). has x w) e ∙ has_none w
bit_there bit (suc v) zero l d = omega (arith, has_zero (bit * 2 ^ suc v), ap (λ (x : ℕ). bit * x) (pow-suc 2 v))
bit_there bit (suc v) (suc w) l d =
    let e : bit * 2 ^ suc v / 2 ≡ bit * 2 ^ v = omega (arith, ap (λ (x : ℕ). bit * x) (pow-suc 2 v)) in
    has_suc (bit * 2 ^ suc v) w ∙ ap (λ (x : ℕ). has x w) e ∙ bit_there bit v w l (λ q. d (ap suc q))

-- What a set weighs, where one bit of it is put.
put_size : (v set new : ℕ) → ((w : ℕ) → w ≢ v → has new w ≡ has set w) → new + has set v * 2 ^ v ≡ set + has new v * 2 ^ v
put_size zero set new h =
    let e : new / 2 ≡ set / 2 = has_same (λ v. sym (has_suc new v) ∙ h (suc v) (λ q. absurd (omega arith)) ∙ has_suc set v) in
    omega (arith, has_zero set, has_zero new)
put_size (suc v) set new h =
    let half : new / 2 + has (set / 2) v * 2 ^ v ≡ set / 2 + has (new / 2) v * 2 ^ v =
    put_size v (set / 2) (new / 2) (λ w d. sym (has_suc new w) ∙ h (suc w) (λ q. d (omega arith)) ∙ has_suc set w) in
    let low : new % 2 ≡ set % 2 = sym (has_zero new) ∙ h 0 (λ q. absurd (omega arith)) ∙ has_zero set in
    rw (has_suc set v, has_suc new v)
    (omega (arith, ap (λ (x : ℕ). has (set / 2) v * x) (pow-suc 2 v), ap (λ (x : ℕ). has (new / 2) v * x) (pow-suc 2 v)))

-- A set that differs at v alone.
pub put_of : {set v bit new : ℕ} → has new v ≡ bit → ((w : ℕ) → w ≢ v → has new w ≡ has set w) → Put set v bit new
put_of {set} {v} {bit} {new} e h =
    record { here = e; there = h; size = put_size v set new h ∙ ap (λ (x : ℕ). set + x * 2 ^ v) e }

-- The set and v too, where the bit is 1.
pub put_with : (set v bit : ℕ) → bit < 2 → Put set v (max (has set v) bit) (bit_or set (bit * 2 ^ v))
put_with set v bit l =
    put_of
    (has_or set (bit * 2 ^ v) v ∙ ap (max (has set v)) (bit_here bit v l))
    (λ w d. has_or set (bit * 2 ^ v) w ∙ omega (arith, bit_there bit v w l d))

-- The set and not v.
pub put_without : (set v : ℕ) → set < 2 ^ 64 → v < 64 → Put set v 0 (bit_and set (2 ^ 64 - 1 - 1 * 2 ^ v % 2 ^ 64))
put_without set v l k =
    rw (shl_exact {a = 1} 1 v 64 (omega arith) (omega arith))
    (let small : 1 * 2 ^ v < 2 ^ 64 = omega (arith, pow-lt k) in
    put_of
    (has_minus set (1 * 2 ^ v) v l small ∙ omega (arith, bit_here 1 v (omega arith), has_small set v))
    (λ w d. has_minus set (1 * 2 ^ v) w l small ∙ omega (arith, bit_there 1 v w (omega arith) d)))

-- A bit moved to v, as the code does it.
pub bit_moved : (bit v : ℕ) → bit < 2 → v < 64 → bit * 2 ^ v % 2 ^ 64 ≡ bit * 2 ^ v
bit_moved bit v l k = shl_exact 1 v 64 l (omega arith)

-- Nobody but v, as the code makes it.
pub put_only : (v : ℕ) → v < 64 → Put 0 v 1 (1 * 2 ^ v % 2 ^ 64)
put_only v k =
    rw (bit_moved 1 v (omega arith) k)
    (put_of (bit_here 1 v (omega arith)) (λ w d. bit_there 1 v w (omega arith) d ∙ sym (has_none w)))

-- The set and v too, as the code makes it.
pub put_flag : (set v : ℕ) (flag : Bool) → v < 64 → Put set v (max (has set v) (cond flag 1 0)) (bit_or set (bool_byte flag * 2 ^ v % 2 ^ 64))
put_flag set v true k = rw (bit_moved 1 v (omega arith) k) (put_with set v 1 (omega arith))
put_flag set v false k = rw (bit_moved 0 v (omega arith) k) (put_with set v 0 (omega arith))

-- A set without somebody of it is smaller.
pub put_less : {set v new : ℕ} → Put set v 0 new → has set v ≡ 1 → new < set
put_less {set} {v} {new} p h = omega (arith, p.size, ap (λ (x : ℕ). x * 2 ^ v) h, pow_pos v)

-- A set into which somebody new is put is larger.
pub put_grows : {set v bit new : ℕ} → Put set v bit new → has set v ≡ 0 → 0 < bit → set < new
put_grows {set} {v} {bit} {new} p h b = omega (arith, p.size, ap (λ (x : ℕ). x * 2 ^ v) h, pow_pos v, mul-le-mul_right (2 ^ v) b)

-- The actor of the lowest bit.
pub has_trailing : (k set : ℕ) → 0 < set → set < 2 ^ k → has set (count_trailing_zeros k set) ≡ 1
unfolding count_trailing_zeros
has_trailing zero set p l = absurd (omega arith)
has_trailing (suc k) set p l = go (has_trailing k (set / 2)) (set % 2) refl
  where
    go : (0 < set / 2 → set / 2 < 2 ^ k → has (set / 2) (count_trailing_zeros k (set / 2)) ≡ 1) → (d : ℕ) → set % 2 ≡ d → has set (under d (count_trailing_zeros k (set / 2))) ≡ 1
    go rest zero e = has_suc set (count_trailing_zeros k (set / 2)) ∙ rest (omega arith) (omega (arith, pow-suc 2 k))
    go rest (suc d) e = omega (arith, has_zero set)

-- The actor of the highest bit.
pub has_leading : (set : ℕ) → 0 < set → set < 2 ^ 64 → has set (63 - count_leading_zeros 64 set) ≡ 1
has_leading set p l =
    let t = leading_top 64 set p l in
    let e : 63 - count_leading_zeros 64 set ≡ t.0 = omega (arith, t.1) in
    rw e (has_top t.0 t.2 t.3)
