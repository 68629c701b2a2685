-- 01: vectors that agree at every actor of a sound graph are its repetition numbers, live and skip alike.
use mathlib.Core.Path.{◌≡◌, ◌∙◌}
use Prim.Native.Nat.{ℕ, ◌<◌}
use Rattle.sdf.specs.Graph.{Graph, Sound}
use Rattle.sdf.specs.Order.{Lives}
use Rattle.sdf.specs.Balance.{Repetition, Once}
use Rattle.sdf.specs.Skip.{Skips}

module _ (g : Graph) (sound : Sound g) {x y : ℕ → ℕ} (same : (v : ℕ) → v < g.actors → y v ≡ x v) where
  -- The repetition numbers.
  pub repetition_agrees : Repetition g x → Repetition g y
  repetition_agrees r =
      record {
        balanced = record {
          positive = λ v l. rw (same v l) (r.balanced.positive v l);
          equal = λ c l. rw (same _ (sound.tail c l), same _ (sound.head c l)) (r.balanced.equal c l);
        };
        least = λ z b v l. rw (same v l) (r.least z b v l);
      }

  -- The skips.
  pub skips_agree : Skips g x → Skips g y
  skips_agree k =
      record {
        skippable = record {
          output = rw (same _ sound.output) k.skippable.output;
          channel = λ c l. rw (same _ (sound.tail c l), same _ (sound.head c l)) (k.skippable.channel c l);
        };
        greatest = λ z a v l. rw (same v l) (k.greatest z a v l);
      }

  -- Input and output fire once.
  pub once_agrees : Once g x → Once g y
  once_agrees o = record { input = same _ sound.input ∙ o.input; output = same _ sound.output ∙ o.output }

  -- Some legal order fires every actor so often.
  pub lives_agrees : Lives g x → Lives g y
  lives_agrees (order, legal, fires) = (order, legal, λ v h. rw (same v h) (fires v h))
