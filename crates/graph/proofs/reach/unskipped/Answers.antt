-- `unskipped` meets its contract: those that are met from the output against the tied channels cannot skip.
use borrow.Author.Rules.{rules}
use Rattle.trial.specs.Net.{net_graph}
use Rattle.repeat.specs.Words.{tied_of}
use Rattle.repeat.proofs.Drawing.{words_of}
use Rattle.graph.proofs.Reaching.{only_below, told_below, unskipped_met}
use Rattle.graph.proofs.reach.unskipped.Goals as goal

pub spread-requires : goal.spread-requires
spread-requires c =
    let n = c.args.chart.now.net.now in
    (n.drawn.actors, only_below n.actors c.only.ensures n.drawn.sound.output, λ v l. search (rules, (words_of c.args.chart.now.words).room), λ v set l t. told_below (net_graph c.args.chart.now.net.now) (words_of c.args.chart.now.words).tied n.drawn.sound.tail v set l (search rules))

pub returns : goal.returns
returns c =
    unskipped_met c.args.chart.now.net.now.drawn (words_of c.args.chart.now.words) c.only.ensures (c.spread.ensures (tied_of c.args.chart.now.neighbours.now) (λ v set l t. search rules))
