-- `at_rest` meets its contract: who is kept back by a channel may not fire.
use Rattle.trial.specs.Net.{net_graph}
use Rattle.graph.proofs.Reaching.{rest_decides}
use Rattle.graph.proofs.at_rest.Goals as goal

pub returns : goal.returns
returns c =
    rest_decides (net_graph c.args.net.now) c.args.back c.with.result c.covers.result c.requires c.with.ensures c.covers.ensures
