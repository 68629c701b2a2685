-- A vector that stands in memory.
use Rattle.std.specs.Prelude.{List, ℕ, get_or}

abbrev pub vector : List ℕ → ℕ → ℕ
vector xs = λ v. get_or xs v 0
