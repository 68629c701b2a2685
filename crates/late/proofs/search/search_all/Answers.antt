-- `search::search_all` meets its contract.
use mathlib.Core.Path.{sym}
use native.Mathlib.Omega.{arith}
use Rattle.late.proofs.search.search_all.Goals as goal

pub search-requires : goal.search-requires
search-requires g c =
    let s = c.requires in
    (s.0, omega arith, omega arith, s.1, c.blank.ensures _ (sym c.graphs.ensures))
