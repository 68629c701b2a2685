-- `search::late` meets its contract.
use mathlib.Core.Path.{refl, sym}
use Rattle.late.proofs.search.late.Goals as goal

pub search-requires : goal.search-requires
search-requires c =
    let first = c.first_window-first.ensures in (
      c.search_end-end.ensures.high,
      first.0,
      first.1,
      refl,
      c.blank.ensures _ (sym c.graphs.ensures),
    )
