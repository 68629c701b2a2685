-- `from_input` meets its contract: those that are met along the channels are those that the input reaches.
use borrow.Author.Rules.{rules}
use Rattle.trial.specs.Net.{net_graph}
use Rattle.repeat.specs.Words.{heads_of}
use Rattle.repeat.proofs.Drawing.{words_of}
use Rattle.graph.proofs.Reaching.{only_below, told_below, from_decides}
use Rattle.graph.proofs.reach.from_input.Goals as goal

pub spread-met-requires : goal.spread-met-requires
spread-met-requires c =
    let n = c.args.chart.now.net.now in
    (n.drawn.actors, only_below n.actors c.only.ensures n.drawn.sound.input, λ v l. search (rules, (words_of c.args.chart.now.words).room), λ v set l t. told_below (net_graph c.args.chart.now.net.now) (words_of c.args.chart.now.words).heads n.drawn.sound.head v set l (search rules))

pub returns : goal.returns
returns c =
    from_decides c.args.chart.now.net.now.drawn (words_of c.args.chart.now.words) c.covers.result c.only.ensures (c.spread-met.ensures (heads_of c.args.chart.now.neighbours.now) (λ v set l t. search rules)) c.covers.ensures
