-- A graph that is written out is one that the engine takes.
use mathlib.Core.Path.{subst}
use mathlib.Core.Logic.{⊎_elim}
use Prim.Native.Nat.{ℕ, zero, suc, ◌<◌, ◌≤◌}
use native.Mathlib.Nat.{le_antisymm, le_of_suc-le-suc, not-suc-le-zero}
use native.Mathlib.Omega.{arith}
use Rattle.sdf.specs.Graph.{Graph}
use Rattle.sdf.proofs.Numbers.{lt_or_ge}
use Rattle.trial.specs.Flat.{Drawn}
use Rattle.graphs.specs.Small.{Each, InRange, Small}

each_at : (P : ℕ → Type 0) (n : ℕ) → Each P n → (c : ℕ) → c < n → P c
each_at P zero e c h = absurd (not-suc-le-zero h)
each_at P (suc n) e c h = ⊎_elim (λ l. each_at P n e.1 c l) (λ (l : n ≤ c). subst P (le_antisymm l (le_of_suc-le-suc h)) e.0) (lt_or_ge c n)

-- What the engine asks.
pub small_drawn : {g : Graph} → Small g → Drawn g
small_drawn {g} s =
    let range : (c : ℕ) → c < g.channels → InRange g.actors (g.channel c) = each_at (λ c. InRange g.actors (g.channel c)) g.channels s.each in
    record {
      sound = record {
        input = s.input;
        output = s.output;
        tail = λ c h. (range c h).tail;
        head = λ c h. (range c h).head;
        produce = λ c h. (range c h).produce.0;
        consume = λ c h. (range c h).consume.0;
      };
      actors = omega arith;
      channels = omega arith;
      produce = λ c h. (range c h).produce.1;
      consume = λ c h. (range c h).consume.1;
      tokens = λ c h. (range c h).tokens;
    }
