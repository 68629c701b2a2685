-- `frame::graph_load` meets its contract.
use Rattle.demand.proofs.Costs.{load_fits}
use Rattle.demand.proofs.frame.graph_load.Goals as goal

pub times-requires : goal.times-requires
times-requires c =
    let weighted = c.args.weighted.now in
    load_fits weighted.rows.now.lent c.requires.1 c.requires.0 (weighted.weighed.weight _ c.requires.0) cc
