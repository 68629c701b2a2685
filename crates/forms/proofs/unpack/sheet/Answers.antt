-- 01, answers 1 to 5 and 14: a sheet that passes has its graph count and its graphs written, if the list has room.
use mathlib.Core.Path.{◌≡◌, sym, ◌∙◌}
use native.Mathlib.Omega.{arith}
use Rattle.std.specs.Prelude.{Ok}
use Rattle.std.proofs.lemmas.Result.{err_from_is_err_and}
use Rattle.sheet.specs.Check.{check_sheet}
use Rattle.sheet.proofs.Walk.{part_is_drop}
use Rattle.sheet.proofs.Forms.{Sheet, sheet_on, unpacked_at_most}
use Rattle.forms.proofs.Unpacking.{unpack_refused, unpack_count, unpack_room, unpack_behind, unpack_wrote, unpack_memory}
use Rattle.forms.proofs.unpack.sheet.Goals as goal

pub returns-in_err-sheet-clause-answer : goal.returns-in_err-sheet-clause-answer
returns-in_err-sheet-clause-answer c =
    let p = err_from_is_err_and c.from_residual.result c.from_residual.ensures.1 in
    rw (p.1, p.2) (unpack_refused _ _ (sym c.sheet.ensures ∙ c.in_err-sheet.was))

pub bounds-s-3 : goal.bounds-s-3
bounds-s-3 c =
    let on : check_sheet c.args.s.now ≡ Ok tt = sym c.sheet.ensures ∙ c.in_ok-sheet.was in
    let known : Sheet c.args.s.now = sheet_on _ on in
    omega (arith, known)

pub slice_bounds-graphs-count : goal.slice_bounds-graphs-count
slice_bounds-graphs-count c =
    let on : check_sheet c.args.s.now ≡ Ok tt = sym c.sheet.ensures ∙ c.in_ok-sheet.was in
    let known : Sheet c.args.s.now = sheet_on _ on in
    omega (arith, known)

pub slice_bounds-graphs-start : goal.slice_bounds-graphs-start
slice_bounds-graphs-start c =
    let on : check_sheet c.args.s.now ≡ Ok tt = sym c.sheet.ensures ∙ c.in_ok-sheet.was in
    let known : Sheet c.args.s.now = sheet_on _ on in
    omega (arith, known)

pub count-all-requires : goal.count-all-requires
count-all-requires c =
    let on : check_sheet c.args.s.now ≡ Ok tt = sym c.sheet.ensures ∙ c.in_ok-sheet.was in
    let known : Sheet c.args.s.now = sheet_on _ on in
    (known.rest.few, rw (part_is_drop _ 4) known.rest.walk)

pub overflow_add-all : goal.overflow_add-all
overflow_add-all c =
    let on : check_sheet c.args.s.now ≡ Ok tt = sym c.sheet.ensures ∙ c.in_ok-sheet.was in
    omega (arith, unpack_count _ on c.count-all.ensures, unpacked_at_most _ on)

pub returns-then-list-all-clause-answer : goal.returns-then-list-all-clause-answer
returns-then-list-all-clause-answer c =
    let on : check_sheet c.args.s.now ≡ Ok tt = sym c.sheet.ensures ∙ c.in_ok-sheet.was in
    unpack_room _ on c.count-all.ensures _ c.if-list-all.true

pub graphs-requires : goal.graphs-requires
graphs-requires c =
    let on : check_sheet c.args.s.now ≡ Ok tt = sym c.sheet.ensures ∙ c.in_ok-sheet.was in
    let known : Sheet c.args.s.now = sheet_on _ on in
    (rw (part_is_drop _ 4) known.rest.walk, unpack_behind _ on c.count-all.ensures c.args.list.now c.if-list-all.false)

pub returns-clause-answer : goal.returns-clause-answer
returns-clause-answer c =
    let on : check_sheet c.args.s.now ≡ Ok tt = sym c.sheet.ensures ∙ c.in_ok-sheet.was in
    unpack_wrote _ on c.count-all.ensures _ c.if-list-all.false

pub returns-clause-memory : goal.returns-clause-memory
returns-clause-memory c =
    let on : check_sheet c.args.s.now ≡ Ok tt = sym c.sheet.ensures ∙ c.in_ok-sheet.was in
    unpack_memory _ on c.count-all.ensures _ c.if-list-all.false c.graphs.ensures
