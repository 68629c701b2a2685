-- `repetition` finds the numbers: those that grow from the input, where they are even on every channel.
use Rattle.trial.specs.Net.{net_graph}
use Rattle.repeat.proofs.Growth.{grown_settled}
use Rattle.repeat.proofs.repetition.repetition.Goals as goal

pub returns : goal.returns
returns c =
    let grown = c.in_ok-grow.ensures in
    grown_settled (net_graph c.args.chart.now.net.now) c.settle.result c.grow.new.q c.settle.new.awaits c.args.chart.now.net.now.drawn.sound grown.0 grown.1 c.settle.ensures
