-- What stands in the engine's lists: after a store, and as a channel.
use mathlib.Core.Path.{◌≡◌}
use mathlib.Core.Logic.{⊎_elim, ◌≢◌}
use mathlib.Core.List.{List}
use Prim.Native.Nat.{ℕ, ◌<◌}
use lib.ListN.{length, get_or, set}
use lib.Seq.{get_or-set_same, get_or-set_other}
use Rattle.sdf.specs.Graph.{Channel, Graph}
use Rattle.sdf.proofs.Numbers.{eq_or_ne}
use Rattle.trial.specs.Flat.{Drawn}
use Rattle.trial.specs.Read.{Read}

-- What holds of a at place i, and elsewhere of what stood there, holds after a is stored at i.
pub stored : (P : ℕ → ℕ → Type 0) (l : List ℕ) (i a : ℕ) → i < length l → P i a → (v : ℕ) → (v ≢ i → P v (get_or l v 0)) → P v (get_or (set l i a) v 0)
stored P l i a h p v q = ⊎_elim (λ e. rw e (rw (get_or-set_same l i a 0 h) p)) (λ d. rw (get_or-set_other l i v a 0 d) (q d)) (eq_or_ne v i)

-- A channel of a drawn graph has actors at its ends and its rates within the bound.
pub read : (g : Graph) (c : ℕ) (e : Channel) → Drawn g → c < g.channels → g.channel c ≡ e → Read g c e
read g c e drawn l is =
    record {
      is = is;
      tail = rw is at (drawn.sound.tail c l);
      head = rw is at (drawn.sound.head c l);
      produce = (rw is at (drawn.sound.produce c l), rw is at (drawn.produce c l));
      consume = (rw is at (drawn.sound.consume c l), rw is at (drawn.consume c l));
    }
