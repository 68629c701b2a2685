-- `to_output` meets its contract: those that are met against the channels from some that reach the output are those that reach it.
use borrow.Author.Rules.{rules}
use Rattle.trial.specs.Net.{net_graph}
use Rattle.repeat.specs.Words.{tails_of}
use Rattle.repeat.proofs.Drawing.{words_of}
use Rattle.graph.proofs.Reaching.{told_below, to_decides}
use Rattle.graph.proofs.reach.to_output.Goals as goal

pub spread-met-requires : goal.spread-met-requires
spread-met-requires c =
    let d = c.args.chart.now.net.now.drawn in
    (d.actors, c.requires.actors, λ v l. search (rules, (words_of c.args.chart.now.words).room), λ v set l t. told_below (net_graph c.args.chart.now.net.now) (words_of c.args.chart.now.words).tails d.sound.tail v set l (search rules))

pub returns : goal.returns
returns c =
    to_decides c.args.chart.now.net.now.drawn (words_of c.args.chart.now.words) c.covers-2.result c.requires (c.spread-met.ensures (tails_of c.args.chart.now.neighbours.now) (λ v set l t. search rules)) c.covers-2.ensures
