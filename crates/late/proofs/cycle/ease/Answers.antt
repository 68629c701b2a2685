-- `cycle::ease` meets its contract.
use mathlib.Core.Path.{◌∙◌, sym}
use native.Mathlib.Omega.{arith}
use Rattle.late.proofs.Parts.{halves, eased}
use Rattle.late.proofs.cycle.ease.Goals as goal

pub fill-requires : goal.fill-requires
fill-requires c =
    let s = c.split in
    let parts = halves c.args.rows.now s.new.short s.new.long c.graphs.ensures s.auto.short s.auto.long s.ensures in
    let n = c.length_of-cycle.ensures in
    (c.blank.ensures _ (parts.short_graphs ∙ sym c.graphs-2.ensures), n.1, omega (arith, n.1, c.requires.1))

pub returns : goal.returns
returns c =
    let s = c.split in
    let parts = halves c.args.rows.now s.new.short s.new.long c.graphs.ensures s.auto.short s.auto.long s.ensures in
    let n = c.length_of-cycle.ensures in
    eased c.args.rows.now _ parts n.0 n.1 (omega (arith, n.1, c.requires.1, c.fill.auto.floors)) c.in_ok-fill.ensures c.in_ok-rest.ensures
    (λ ws e. c.blank-2.ensures ws (e ∙ sym c.graphs-3.ensures))
