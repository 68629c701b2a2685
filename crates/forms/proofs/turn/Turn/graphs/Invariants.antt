-- `Turn::graphs`: the graphs are written one after the other, each behind those before it.
use Rattle.forms.proofs.Writing.{Writing}
use Rattle.forms.proofs.turn.Turn.graphs.Given as goal

abbrev pub invariant-loop : goal.invariant-loop
invariant-loop g l =
    let h = g.Self.Form in
    Writing h.size g.Self.Turn.all l.n (h.entries l.initial.rest) l.initial.out l.out l.counter (h.entries l.rest) l.to
