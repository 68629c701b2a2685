-- `link` builds the lists. The invariant: those of the channels passed.
use Rattle.trial.specs.Links.{end_of, Linked}
use Rattle.trial.proofs.links.link.Given as goal

abbrev pub invariant-loop-c : goal.invariant-loop-c
invariant-loop-c l = Linked (end_of l.end l.net.channels.now) l.net.actors l.c l.links
