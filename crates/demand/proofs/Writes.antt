-- Numbers that are written run by run, each behind the last.
use mathlib.Core.Path.{◌≡◌, ◌∙◌, refl, ap}
use mathlib.Core.List.{List, [], ◌∷◌, ◌++◌}
use Prim.Native.Nat.{ℕ, suc, ◌+◌, ◌≤◌}
use native.Mathlib.Nat.{add-zero, zero-add}
use native.Mathlib.Omega.{arith}
use lib.ListN.{length, drop, set, length-append}
use lib.Seq.{sets, sets-eq, length-sets}
use Rattle.demand.specs.Written.{Wrote}

-- Nothing is written.
pub wrote_none : (out : List ℕ) → Wrote out 0 [] out 0
wrote_none out = record { place = refl; list = refl }

sets_append : (xs ys out : List ℕ) (to : ℕ) → sets (sets out to xs) (to + length xs) ys ≡ sets out to (xs ++ ys)
sets_append [] ys out to = rw add-zero
sets_append (x ∷ xs) ys out to =
    ap (λ (k : ℕ). sets (sets (set out to x) (suc to) xs) k ys) (omega arith) ∙ sets_append xs ys (set out to x) (suc to)

-- One run of numbers behind another.
pub wrote_then : {o p r xs ys : List ℕ} {a b c : ℕ} → Wrote o a xs p b → Wrote p b ys r c → Wrote o a (xs ++ ys) r c
wrote_then {o} {xs = xs} {ys = ys} {a = a} f g = record {
  place = omega (arith, f.place, g.place, length-append xs ys);
  list = g.list ∙ rw (f.list, f.place) (sets_append xs ys o a);
}

-- What is written into keeps its length.
pub wrote_length : {o p xs : List ℕ} {a b : ℕ} → Wrote o a xs p b → length p ≡ length o
wrote_length {o} {xs = xs} {a = a} f = ap length f.list ∙ length-sets o a xs

-- Numbers written from the first place on are in front, and the rest is as it was.
pub wrote_front : {o p xs : List ℕ} {b : ℕ} → length xs ≤ length o → Wrote o 0 xs p b → p ≡ xs ++ drop (length xs) o
wrote_front {o} {xs = xs} h f = f.list ∙ simp zero-add at (sets-eq xs o 0 (omega arith))
