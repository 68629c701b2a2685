-- `Turn::count`: what the graphs take is added up graph by graph.
use Rattle.sheet.specs.Layout.{largest_graph_bytes}
use Rattle.forms.proofs.Writing.{Counting}
use Rattle.forms.proofs.turn.Turn.count.Given as goal

abbrev pub invariant-loop : goal.invariant-loop
invariant-loop g l =
    let h = g.Self.Form in
    Counting h.size g.Self.Turn.all largest_graph_bytes l.n (h.entries l.initial.rest) l.counter (h.entries l.rest) l.sum
