-- The number of one actor more stands in the first places of lent memory.
use mathlib.Core.Path.{◌≡◌, ◌∙◌}
use mathlib.Core.List.{List, ◌++◌}
use Prim.Native.Nat.{ℕ, suc, ◌+◌, ◌<◌, ◌≤◌}
use native.Mathlib.Numerals.{add-one}
use native.Mathlib.Omega.{arith}
use lib.ListN.{length, get_or, take, drop, set}
use lib.Seq.{drop-cons, set_at, append_snoc}
use Rattle.std.specs.Prelude.{map}
use Rattle.std.proofs.lemmas.List.{map_more, length-map, length-take-le, take_all}
use Rattle.demand.specs.declared.rows.Actor.{Actor}

-- The numbers of the first v actors stand in the first places, and behind them the memory is as it was before.
abbrev pub Copied : (Actor → ℕ) → List Actor → List ℕ → List ℕ → ℕ → Type 0
Copied field actors before now v = now ≡ map field (take v actors) ++ drop v before

-- The next number is copied.
pub copied_turn :
    (field : Actor → ℕ) (actors : List Actor) (before : List ℕ) {now : List ℕ} {v n : ℕ} (none : Actor) → Copied field actors before now v →
    v < length actors → v < length before → n ≡ field (get_or actors v none) → Copied field actors before (set now v n) (v + 1)
copied_turn field actors before {now} {v} {n} none e h l m =
    let done : length (map field (take v actors)) ≡ v = rw length-map (length-take-le v actors (omega arith)) in
    rw (e, drop-cons before v 0 l, set_at (map field (take v actors)) (get_or before v 0) (drop (suc v) before) n v done, m, map_more field actors v none h, add-one, append_snoc)

-- Those of all actors are copied.
pub copied_all :
    (field : Actor → ℕ) (actors : List Actor) (before : List ℕ) {now : List ℕ} {v : ℕ} {all : List Actor} → Copied field actors before now v →
    length actors ≤ v → v ≤ length actors → actors ≡ all → now ≡ map field all ++ drop (length actors) before
copied_all field actors before {now} {v} e h l same =
    let end : v ≡ length actors = omega arith in
    e ∙ rw (end, take_all (length actors) actors (omega arith), same)
