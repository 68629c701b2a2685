-- 01, The sheet, byte by byte: how much room the parts of a graph take in each form.
use Rattle.std.specs.Prelude.{ℕ, ◌≡◌, refl}
use Rattle.sheet.specs.Field.{Field}
use Rattle.sheet.specs.Layout.{fixed_part, actor_part, channel_part, total, in_bytes, in_numbers}

-- How much the fixed part, an actor and a channel take.
pub record Sizes (size : Field → ℕ) (fixed actor channel : ℕ) : Type 0 where
  pub fixed_is : (a : ℕ) → total size (fixed_part a) ≡ fixed
  pub actor_is : total size actor_part ≡ actor
  pub channel_is : (a : ℕ) → total size (channel_part a) ≡ channel

pub sizes_bytes : Sizes in_bytes 12 4 8
unfolding total fixed_part actor_part channel_part
sizes_bytes = record { fixed_is = λ a. refl; actor_is = refl; channel_is = λ a. refl }

pub sizes_numbers : Sizes in_numbers 6 1 5
unfolding total fixed_part actor_part channel_part
sizes_numbers = record { fixed_is = λ a. refl; actor_is = refl; channel_is = λ a. refl }
