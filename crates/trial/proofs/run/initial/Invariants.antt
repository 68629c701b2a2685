-- `initial` puts the initial tokens on every channel.
use mathlib.Core.Path.{◌≡◌}
use Prim.Native.Nat.{ℕ, ◌<◌}
use lib.ListN.{get_or}
use Rattle.trial.specs.Flat.{channel_at}
use Rattle.trial.proofs.run.initial.Given as goal

abbrev pub invariant-loop-c : goal.invariant-loop-c
invariant-loop-c l = (d : ℕ) → d < l.c → get_or l.tokens d 0 ≡ (channel_at l.net.channels.now d).tokens
