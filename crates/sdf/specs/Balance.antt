-- 01, Balanced: vectors of firings that put on each channel what they take off it. A vector is a function of the actor's
-- number and counts below the number of actors.
use Rattle.std.specs.Prelude.{◌≡◌, ℕ, ◌*◌, ◌<◌, ◌≤◌}
use Rattle.sdf.specs.Graph.{Graph}

-- 01, Balanced: positive, and on each channel tail's number × produce = head's number × consume.
pub record Balanced (g : Graph) (q : ℕ → ℕ) : Type 0 where
  pub positive : (v : ℕ) → v < g.actors → 0 < q v
  pub equal : (c : ℕ) → c < g.channels → q (g.channel c).tail * (g.channel c).produce ≡ q (g.channel c).head * (g.channel c).consume

abbrev pub AtMost : Graph → (ℕ → ℕ) → (ℕ → ℕ) → Type 0
AtMost g x y = (v : ℕ) → v < g.actors → x v ≤ y v

-- 01, Balanced: the repetition vector is balanced and at most every balanced vector.
pub record Repetition (g : Graph) (q : ℕ → ℕ) : Type 0 where
  pub balanced : Balanced g q
  pub least : (x : ℕ → ℕ) → Balanced g x → AtMost g q x

-- 01, answer 8: some balanced vector has no entry above the bound.
abbrev pub Balances : Graph → ℕ → Type 0
Balances g bound = (x : ℕ → ℕ) × Balanced g x × AtMost g x (λ _. bound)

-- 01, answer 9: input and output fire once in an iteration.
pub record Once (g : Graph) (q : ℕ → ℕ) : Type 0 where
  pub input : q g.input ≡ 1
  pub output : q g.output ≡ 1
