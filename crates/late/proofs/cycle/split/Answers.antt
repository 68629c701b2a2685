-- `cycle::split` meets its contract. The loop's invariant: the graphs passed are in the parts.
use native.Mathlib.Omega.{arith}
use Rattle.late.proofs.Parts.{parted_turn}
use Rattle.late.proofs.cycle.split.Goals as goal

pub loop-i-preserved : goal.loop-i-preserved
loop-i-preserved c =
    let l = c.loop-i in
    parted_turn c.args.rows.now.heads.now l.short l.long l.invariant (omega arith) (omega arith) c.short_actors-actors.ensures
