-- 01: the result takes the first places of lent memory and the rest stays, while it is written part by part.
use mathlib.Core.Path.{◌≡◌, refl, sym, ap, subst, ◌∙◌}
use mathlib.Core.List.{List, [], ◌∷◌, ◌++◌, append_assoc, append-nil}
use Prim.Native.Nat.{ℕ, suc, ◌+◌, ◌-◌, ◌≤◌, ◌<◌}
use native.Mathlib.Numerals.{add-one}
use native.Mathlib.Omega.{arith}
use lib.ListN.{length, take, drop, set, length-append, length-drop, drop_of_length-le}
use lib.Seq.{drop-cons, drop-drop, take_all, take_at, drop_at, set_at}
use borrow.Rule.Slice.PartMut.{put_mid, mid_of}

-- Lent memory while a result is written into it: `out` numbers of the result stand in its first places, the rest of the result
-- is to come, and behind them the memory is as it was before.
pub record Filling {A : Type 0} (before now result rest : List A) (out : ℕ) : Type 0 where
  pub done : List A
  pub wrote : length done ≡ out
  pub whole : done ++ rest ≡ result
  pub is : now ≡ done ++ drop out before

-- Nothing is written yet.
pub filling_start : {A : Type 0} (before result : List A) → Filling before before result result 0
filling_start before result = record { done = []; wrote = refl; whole = refl; is = refl }

-- The next part of the result is written behind what is written.
pub filling_part :
    {A : Type 0} {before now result rest ys : List A} {out : ℕ} (part : List A) → Filling before now result (part ++ rest) out →
    ys ≡ part ++ drop (length part) (mid_of out (length now - out) now) →
    Filling before (put_mid out (length now - out) now ys) result rest (out + length part)
filling_part {A} {before} {now} {result} {rest} {ys} {out} part f e =
    let front : take out now ≡ f.done = ap (take out) f.is ∙ take_at f.done (drop out before) out f.wrote in
    let behind : drop out now ≡ drop out before = ap (drop out) f.is ∙ drop_at f.done (drop out before) out f.wrote in
    let room : length (drop out now) ≤ length now - out = simp length-drop (omega arith) in
    record {
      done = f.done ++ part;
      wrote = simp (length-append, f.wrote);
      whole = append_assoc f.done part rest ∙ f.whole;
      is = rw (drop_of_length-le (drop out now) room, append-nil, e, take_all (length now - out) (drop out now) room, front, behind, drop-drop, append_assoc);
    }

-- One number is written behind what is written.
pub filling_set :
    {before now result rest : List ℕ} {out n : ℕ} → Filling before now result (n ∷ rest) out → out < length before →
    Filling before (set now out n) result rest (out + 1)
filling_set {before} {now} {result} {rest} {out} {n} f h =
    record {
      done = f.done ++ (n ∷ []);
      wrote = simp (length-append, f.wrote);
      whole = append_assoc f.done (n ∷ []) rest ∙ f.whole;
      is = rw (f.is, drop-cons before out 0, set_at f.done _ (drop (suc out) before) n out f.wrote, append_assoc, add-one);
    }

-- All of the result is written.
pub filling_end : {A : Type 0} {before now result : List A} {out : ℕ} → Filling before now result [] out → now ≡ result ++ drop (length result) before
filling_end f = simp (f.is, ← f.whole, append-nil, f.wrote)

-- What is written and what is to come are the result.
pub filling_count : {A : Type 0} {before now result rest : List A} {out : ℕ} → Filling before now result rest out → out + length rest ≡ length result
filling_count f = simp (← f.whole, length-append, f.wrote)

-- The memory keeps its length.
pub filling_length : {A : Type 0} {before now result rest : List A} {out : ℕ} → Filling before now result rest out → out ≤ length before → length now ≡ length before
filling_length f h = simp (f.is, length-append, length-drop, f.wrote) (omega arith)

-- Where there is room for the result, the memory keeps its length, and there is room for what is to come.
pub filling_inside :
    {A : Type 0} {before now result rest : List A} {out : ℕ} → Filling before now result rest out → length result ≤ length before →
    (length now ≡ length before) × (out + length rest ≤ length now)
filling_inside f room =
    let count = filling_count f in
    let kept = filling_length f (omega arith) in
    (kept, omega arith)

-- The last part of the result is written behind what is written.
pub filling_last :
    {A : Type 0} {before now result ys : List A} {out : ℕ} (part : List A) → Filling before now result part out →
    ys ≡ part ++ drop (length part) (mid_of out (length now - out) now) →
    put_mid out (length now - out) now ys ≡ result ++ drop (length result) before
filling_last {A} {before} {now} {result} {ys} {out} part f e =
    filling_end (filling_part part (subst (λ (rest : List A). Filling before now result rest out) (sym (append-nil part)) f) e)
