-- What the search for the smallest late length answers.
use Rattle.std.specs.Prelude.{Option, Some, None}
use Rattle.units.specs.declared.Ticks.{Ticks}
use Rattle.edf.specs.Demand.{Works, LateLength}
use Rattle.edf.specs.Demand.{Within as AllWithin}

-- 01, answer 21: the smallest late length, or that demand is within every length.
abbrev pub LateAnswer : Works → Option Ticks → Type 0
LateAnswer ws (Some t) = LateLength ws t.n
LateAnswer ws None = AllWithin ws
