-- `lives` decides deadlock (01, Deadlock): nobody is left, or the core is tried.
use mathlib.Core.Path.{refl}
use mathlib.Core.List.{List}
use Prim.Native.Nat.{ℕ, ◌*◌}
use native.Mathlib.Omega.{arith}
use lib.ListN.{take}
use Rattle.sets.proofs.Decided.{decides_same}
use Rattle.trial.specs.Flat.{graph_of, Drawn}
use Rattle.knot.proofs.Knots.{done_lives, knot_decides, kept_drawn, kept_runnable, front_length}
use Rattle.knot.proofs.lives.Goals as goal
use Rattle.knot.proofs.lives.Goals.{After-keep-n}

-- The channels kept.
abbrev inner : After-keep-n → List ℕ
inner c = take (5 * c.keep-n.result) c.keep-n.new.kept

-- They make a graph that the engine takes.
drawn : (c : After-keep-n) → Drawn (graph_of c.args.waiting.now.net.now.actors c.args.waiting.now.net.now.input c.args.waiting.now.net.now.output (inner c))
drawn c =
    let size = front_length c.keep-n.new.kept c.keep-n.ensures.1 (rw c.keep-n.auto.kept c.requires.channels_in_bounds.0) in
    kept_drawn c.args.waiting.now.net.now.drawn c.keep-n.ensures.0 refl refl (omega (arith, size, c.keep-n.ensures.1))

pub returns-then-late-eq0 : goal.returns-then-late-eq0
returns-then-late-eq0 c = done_lives c.args.waiting.now.net.now.drawn.sound c.ordered-late.ensures.0 c.if-late-eq0.true

pub lives-requires-clause-drawn : goal.lives-requires-clause-drawn
lives-requires-clause-drawn c =
    let k = (goal.at.lives-requires-clause-drawn c).After-keep-n in
    rw c.of-lists.ensures (kept_runnable c.args.waiting.now.net.now.drawn.sound (drawn k).sound c.args.waiting.now.balanced c.keep-n.ensures.0 c.shares.ensures c.requires.at_most.0)

pub returns : goal.returns
returns c =
    let k = (goal.at.returns c).After-keep-n in
    let both = knot_decides c.args.waiting.now.net.now.drawn.sound (drawn k).sound c.args.waiting.now.balanced c.keep-n.ensures.0 c.shares.ensures c.core_of-core.ensures.0 in
    decides_same c.lives.result both.0 both.1 (rw c.of-lists.ensures at c.lives.ensures)
