-- A test's answer: true exactly if P holds.
use Rattle.std.specs.Prelude.{Bool, true, false}

abbrev pub Decides : Bool → Type 0 → Type 0
Decides true P = P
Decides false P = ¬ P
