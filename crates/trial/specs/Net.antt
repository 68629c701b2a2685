-- The graph that the engine is handed, and the lists of its channels at each actor.
use Rattle.std.specs.Prelude.{List, ℕ, ◌/◌, length}
use Rattle.sdf.specs.Graph.{Graph}
use Rattle.trial.specs.Flat.{graph_of}
use Rattle.trial.specs.Links.{heads, tails, Linked}
use Rattle.trial.specs.declared.net.Net.{Net}

abbrev pub net_graph : Net → Graph
net_graph net = graph_of net.actors net.input net.output net.channels.now

-- The links lead along the channels into each actor. The second definition says the same of those out of it.
abbrev pub LinkedInto : Net → List ℕ → Type 0
LinkedInto net links = Linked (heads net.channels.now) net.actors (length net.channels.now / 5) links

abbrev pub LinkedOut : Net → List ℕ → Type 0
LinkedOut net links = Linked (tails net.channels.now) net.actors (length net.channels.now / 5) links
