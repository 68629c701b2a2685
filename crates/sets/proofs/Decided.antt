-- What a test's answer says.
use mathlib.Core.Path.{◌≡◌, refl, sym, subst}
use mathlib.Core.Bool.{Bool, true, false}
use Prim.Native.Nat.{ℕ, ◌<◌}
use native.Mathlib.Omega.{arith}
use lib.Dec.{ltb}
use borrow.Author.Tests.{ltb-true, ltb-false, lt-ltb, le-ltb}
use Rattle.std.specs.declared.cmp.Ordering.{Ordering}
use Rattle.std.specs.declared.cmp.Ordering.TheVariants.{Less, Equal, Greater}
use Rattle.std.specs.Cmp.{ranks}
use Rattle.std.specs.Ordering.{is_lt, nat_cmp, MatchOrdering}
use Rattle.sets.specs.Decides.{Decides}

-- What decides P decides Q, where each follows from the other.
pub decides_same : {P Q : Type 0} (r : Bool) → (P → Q) → (Q → P) → Decides r P → Decides r Q
decides_same true f g p = f p
decides_same false f g n = λ q. n (g q)

-- A test that says yes.
pub decided_yes : (P : Type 0) (r : Bool) → r ≡ true → Decides r P → P
decided_yes P r e d = subst (λ r. Decides r P) e d

-- A test that says no.
pub decided_no : (P : Type 0) (r : Bool) → r ≡ false → Decides r P → ¬ P
decided_no P r e d = subst (λ r. Decides r P) e d

-- A comparison.
pub decides_less : (a b : ℕ) → Decides (ltb a b) (a < b)
decides_less a b = go (ltb a b) refl
  where
    go : (r : Bool) → ltb a b ≡ r → Decides r (a < b)
    go true e = ltb-true a b e
    go false e = λ l. absurd (omega (arith, ltb-false a b e))

-- A comparison of two counts, in the order that they derive from their numbers.
pub ordered_less : (a b : ℕ) → is_lt (nat_cmp a b) ≡ ltb a b
ordered_less a b = go (nat_cmp a b) (ranks a b)
  where
    go : (r : Ordering) → MatchOrdering r (a < b) (a ≡ b) (b < a) → is_lt r ≡ ltb a b
    go Less h = sym (lt-ltb a b h)
    go Equal h = sym (le-ltb a b (omega arith))
    go Greater h = sym (le-ltb a b (omega arith))
