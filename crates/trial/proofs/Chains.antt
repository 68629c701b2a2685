-- Lists of channels by one end: how they are built, and what a walk along one of them has done.
use mathlib.Core.Path.{◌≡◌, refl, ◌∙◌}
use mathlib.Core.Logic.{⊎_elim, ◌≢◌}
use mathlib.Core.List.{List}
use Prim.Native.Nat.{ℕ, ◌+◌, ◌<◌, ◌≤◌}
use native.Mathlib.Omega.{arith}
use lib.ListN.{length, get_or, set}
use lib.Seq.{get_or-set_same, get_or-set_other}
use Rattle.sdf.proofs.Numbers.{lt_or_ge, eq_or_ne}
use Rattle.trial.specs.Links.{Chain, Linked}

-- A walk along the list of v has come to link `at`: Q holds of the channels from there on.
pub record Walked (end : ℕ → ℕ) (v n at : ℕ) (Q : ℕ → Type 0) : Type 0 where
  pub within : at ≤ n
  pub ends : (c : ℕ) → at ≡ c + 1 → end c ≡ v
  pub passed : (c : ℕ) → at ≤ c → c < n → Q c

-- Channels that the list passes over ask nothing.
pub walked_start : {end : ℕ → ℕ} {v n at : ℕ} (Q : ℕ → Type 0) → Chain end v n at → ((c : ℕ) → end c ≢ v → Q c) → Walked end v n at Q
walked_start Q chain other = record { within = chain.within; ends = chain.ends; passed = λ c l m. other c (chain.none c l m) }

-- A walk has passed one channel more.
pub walked_turn : {end : ℕ → ℕ} {v n at next c : ℕ} {Q : ℕ → Type 0} (R : ℕ → Type 0) → Walked end v n at Q → at ≡ c + 1 → Chain end v c next
    → ((d : ℕ) → d < c → end d ≢ v → R d) → R c → ((d : ℕ) → c < d → Q d → R d) → Walked end v n next R
walked_turn {c = c} R walked here chain other this again = record {
  within = omega (arith, walked.within, chain.within);
  ends = chain.ends;
  passed = λ d l m. ⊎_elim
      (λ k. other d k (chain.none d l k))
      (λ k. ⊎_elim (λ e. rw e this) (λ n. again d (omega (arith, n)) (walked.passed d (omega (arith, n)) m)) (eq_or_ne d c))
      (lt_or_ge d c);
}

-- The link after channel c, on the list of v.
pub walked_next : {end : ℕ → ℕ} {actors v n at c : ℕ} {links : List ℕ} {Q : ℕ → Type 0} → Linked end actors n links → Walked end v n at Q → at ≡ c + 1
    → Chain end v c (get_or links (actors + c) 0)
walked_next {c = c} linked walked here = rw (walked.ends c here) at (linked.next c (omega (arith, walked.within)))

-- The link that a walk along these links goes on to after channel c.
pub along_next : {end : ℕ → ℕ} {actors actors' v n at c next : ℕ} {links links' : List ℕ} {Q : ℕ → Type 0} → Linked end actors n links → links' ≡ links → actors' ≡ actors
    → Walked end v n at Q → (at ≡ c + 1) × (next ≡ get_or links' (actors' + c) 0) → Chain end v c next
along_next linked same_links same_actors walked step = rw (step.1, same_links, same_actors) (walked_next linked walked step.0)

-- Such a walk that changes what stands at the channels: P holds of what stood and what stands there, and ahead nothing changed.
pub record Changed (end : ℕ → ℕ) (v n at : ℕ) (P : ℕ → ℕ → ℕ → Type 0) (held held' : List ℕ) : Type 0 where
  pub walked : Walked end v n at (λ c. P c (get_or held c 0) (get_or held' c 0))
  pub ahead : (c : ℕ) → c < at → get_or held' c 0 ≡ get_or held c 0

pub changed_start : {end : ℕ → ℕ} {v n at : ℕ} (P : ℕ → ℕ → ℕ → Type 0) (held : List ℕ) → Chain end v n at
    → ((c x : ℕ) → end c ≢ v → P c x x) → Changed end v n at P held held
changed_start P held chain other = record {
  walked = walked_start _ chain (λ c. other c (get_or held c 0));
  ahead = λ c l. refl;
}

pub changed_turn : {end : ℕ → ℕ} {v n at next c there : ℕ} {P : ℕ → ℕ → ℕ → Type 0} {held held' : List ℕ} (R : ℕ → ℕ → ℕ → Type 0)
    → Changed end v n at P held held' → at ≡ c + 1 → c < length held' → Chain end v c next
    → ((d x : ℕ) → end d ≢ v → R d x x) → ((d x y : ℕ) → P d x y → R d x y) → R c (get_or held' c 0) there
    → Changed end v n next R held (set held' c there)
changed_turn {c = c} {there} {P} {held} {held'} R before here room chain other again this = record {
  walked = walked_turn _ before.walked here chain
      (λ d l n. rw (get_or-set_other held' c d there 0 (λ e. omega arith), before.ahead d (omega arith)) (other d (get_or held d 0) n))
      (rw (get_or-set_same held' c there 0 room, ← before.ahead c (omega arith)) this)
      (λ d l p. rw (get_or-set_other held' c d there 0 (λ e. omega arith)) (again d (get_or held d 0) (get_or held' d 0) p));
  ahead = λ d l. get_or-set_other held' c d there 0 (λ e. omega (arith, chain.within)) ∙ before.ahead d (omega (arith, chain.within));
}
