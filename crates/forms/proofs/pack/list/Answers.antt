-- `pack::list` meets its contract: answers 3 to 6 and 14, and the sheet in the first places of the bytes.
use mathlib.Core.Path.{◌≡◌, sym, ap, ◌∙◌}
use Prim.Native.Nat.{ℕ, ◌+◌}
use native.Mathlib.Omega.{arith}
use lib.ListN.{get_or, set, length-set, length-take, length-drop}
use Rattle.std.specs.Prelude.{Ok}
use Rattle.std.proofs.lemmas.Result.{err_from_is_err_and}
use Rattle.sheet.specs.Forms.{packed, check_numbers}
use Rattle.sheet.proofs.Filling.{Filling}
use Rattle.sheet.proofs.Forms.{numbers_on}
use Rattle.sheet.proofs.Ranges.{Listed, listed}
use Rattle.forms.proofs.Packing.{body, pack_no, Counted, pack_small, pack_room, pack_wrote, pack_head, pack_graphs}
use Rattle.forms.proofs.pack.list.Goals as goal

pub returns-in_err-numbers-clause-answer : goal.returns-in_err-numbers-clause-answer
returns-in_err-numbers-clause-answer c =
    let p = err_from_is_err_and c.from_residual.result c.from_residual.ensures.1 in
    rw (p.1, p.2) (pack_no _ _ _ (sym c.numbers.ensures ∙ c.in_err-numbers.was))

pub bounds-l-0 : goal.bounds-l-0
bounds-l-0 c =
    let passed : check_numbers c.args.l.now ≡ Ok tt = sym c.numbers.ensures ∙ c.in_ok-numbers.was in
    let known : Listed c.args.l.now = listed _ (numbers_on _ passed).0 in
    known.inside

pub slice_bounds-rest-count : goal.slice_bounds-rest-count
slice_bounds-rest-count c =
    let passed : check_numbers c.args.l.now ≡ Ok tt = sym c.numbers.ensures ∙ c.in_ok-numbers.was in
    let known : Listed c.args.l.now = listed _ (numbers_on _ passed).0 in
    known.inside

pub slice_bounds-rest-start : goal.slice_bounds-rest-start
slice_bounds-rest-start c =
    let passed : check_numbers c.args.l.now ≡ Ok tt = sym c.numbers.ensures ∙ c.in_ok-numbers.was in
    let known : Listed c.args.l.now = listed _ (numbers_on _ passed).0 in
    known.inside

pub count-all-requires : goal.count-all-requires
count-all-requires c =
    let passed : check_numbers c.args.l.now ≡ Ok tt = sym c.numbers.ensures ∙ c.in_ok-numbers.was in
    let known : Listed c.args.l.now = listed _ (numbers_on _ passed).0 in
    (known.few, known.walk)

pub overflow_add-all : goal.overflow_add-all
overflow_add-all c =
    let passed : check_numbers c.args.l.now ≡ Ok tt = sym c.numbers.ensures ∙ c.in_ok-numbers.was in
    let counted : Counted c.args.l.now (4 + c.count-all.result) = record { on = passed; count = ap (λ (n : ℕ). 4 + n) c.count-all.ensures } in
    omega (arith, pack_small counted)

pub returns-then-out-all-clause-answer : goal.returns-then-out-all-clause-answer
returns-then-out-all-clause-answer c =
    let passed : check_numbers c.args.l.now ≡ Ok tt = sym c.numbers.ensures ∙ c.in_ok-numbers.was in
    let counted : Counted c.args.l.now (4 + c.count-all.result) = record { on = passed; count = ap (λ (n : ℕ). 4 + n) c.count-all.ensures } in
    pack_room counted _ c.if-out-all.true

pub overflow_cast-all : goal.overflow_cast-all
overflow_cast-all c =
    let passed : check_numbers c.args.l.now ≡ Ok tt = sym c.numbers.ensures ∙ c.in_ok-numbers.was in
    let counted : Counted c.args.l.now (4 + c.count-all.result) = record { on = passed; count = ap (λ (n : ℕ). 4 + n) c.count-all.ensures } in
    omega (arith, pack_small counted)

pub overflow_cast-out : goal.overflow_cast-out
overflow_cast-out c =
    let passed : check_numbers c.args.l.now ≡ Ok tt = sym c.numbers.ensures ∙ c.in_ok-numbers.was in
    let known : Listed c.args.l.now = listed _ (numbers_on _ passed).0 in
    omega (arith, known.few)

pub graphs-requires : goal.graphs-requires
graphs-requires c =
    let passed : check_numbers c.args.l.now ≡ Ok tt = sym c.numbers.ensures ∙ c.in_ok-numbers.was in
    let known : Listed c.args.l.now = listed _ (numbers_on _ passed).0 in
    let counted : Counted c.args.l.now (4 + c.count-all.result) = record { on = passed; count = ap (λ (n : ℕ). 4 + n) c.count-all.ensures } in
    (known.walk, simp (length-take, length-drop, length-set) (omega (arith, counted.count)))

pub returns-clause-answer : goal.returns-clause-answer
returns-clause-answer c =
    let passed : check_numbers c.args.l.now ≡ Ok tt = sym c.numbers.ensures ∙ c.in_ok-numbers.was in
    let counted : Counted c.args.l.now (4 + c.count-all.result) = record { on = passed; count = ap (λ (n : ℕ). 4 + n) c.count-all.ensures } in
    pack_wrote counted _ c.if-out-all.false

pub returns-clause-memory : goal.returns-clause-memory
returns-clause-memory c =
    let passed : check_numbers c.args.l.now ≡ Ok tt = sym c.numbers.ensures ∙ c.in_ok-numbers.was in
    let counted : Counted c.args.l.now (4 + c.count-all.result) = record { on = passed; count = ap (λ (n : ℕ). 4 + n) c.count-all.ensures } in
    let head : let a = c.args in Filling a.out.now (set (set c.two.new.out 2 1) 3 (get_or a.l.now 0 0)) (packed a.l.now) (body a.l.now) 4 = pack_head counted _ _ c.if-out-all.false c.two.ensures in
    (pack_graphs counted c.if-out-all.false head c.graphs.ensures).1
