-- A field of a graph: its width in bytes, and the least and the greatest number that it may hold.
use Rattle.std.specs.Prelude.{ℕ}

pub record Field : Type 0 where
  pub width : ℕ
  pub low : ℕ
  pub high : ℕ
