-- 01, Bounds: what a checked constructor answers. A number from low to high is that many of the count; for any other number
-- there is none.
use Rattle.std.specs.Prelude.{ℕ, Bool, cond, ◌&&◌, leb, Option, Some, None}
use Rattle.units.specs.declared.Ticks.{Ticks}
use Rattle.units.specs.declared.Firings.{Firings}
use Rattle.units.specs.declared.Tokens.{Tokens}

abbrev pub between : ℕ → ℕ → ℕ → Bool
between low high n = leb low n && leb n high

abbrev pub within : {C : Type 0} → (ℕ → C) → ℕ → ℕ → ℕ → Option C
within counted low high n = cond (between low high n) (Some (counted n)) None

abbrev pub ticks_within : ℕ → ℕ → ℕ → Option Ticks
ticks_within = within (λ n. record { n = n })

abbrev pub firings_within : ℕ → ℕ → ℕ → Option Firings
firings_within = within (λ n. record { n = n })

abbrev pub tokens_within : ℕ → ℕ → ℕ → Option Tokens
tokens_within = within (λ n. record { n = n })
