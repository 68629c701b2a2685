-- `follow` visits v and then along the hints. The invariant: w is an actor, and is visited next.
use Prim.Native.Nat.{◌<◌}
use Rattle.trial.specs.Net.{net_graph}
use Rattle.trial.proofs.Toward.{Following, ahead}
use Rattle.trial.proofs.run.follow.Given as goal

abbrev pub invariant-loop-next : goal.invariant-loop-next
invariant-loop-next l = (l.w < l.lists.net.now.actors) × Following (net_graph l.lists.net.now) l.v l.w l.sum.n l.initial.tokens l.initial.left l.initial.ready l.tokens l.left l.ready

abbrev pub decreases-loop-next : goal.decreases-loop-next
decreases-loop-next l = ahead l.lists.net.now.actors l.left l.hints
