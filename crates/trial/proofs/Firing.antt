-- 01, The graph, for the engine: how often the channels let an actor fire in a row, and what its firings change.
use mathlib.Core.Path.{◌≡◌, sym, ap, ◌∙◌}
use mathlib.Core.Logic.{⊎_elim, ◌≢◌}
use mathlib.Core.List.{List}
use Prim.Native.Nat.{ℕ, ◌+◌, ◌*◌, ◌<◌, ◌≤◌}
use native.Mathlib.Nat.{le_trans, mul-le-mul_right}
use native.Mathlib.Omega.{arith}
use lib.ListN.{length, get_or, set}
use Rattle.sdf.specs.Graph.{Channel}
use Rattle.sdf.specs.Order.{State, removed, added}
use Rattle.sdf.proofs.Numbers.{eq_or_ne, chosen, passed}
use Rattle.trial.specs.Links.{Chain}
use Rattle.trial.specs.Trial.{Greatest, Lets, Allows, Woken, Fireable, PutOn, Put, TakenOff}
use Rattle.trial.proofs.Chains.{Walked, walked_turn, Changed, changed_start, changed_turn}

-- A channel that lets v fire k times lets it fire fewer times.
lets_fewer : {e : Channel} {held v j k : ℕ} → j ≤ k → Lets e held v k → Lets e held v j
lets_fewer {e} {j = j} {k = k} less lets = record {
  others = λ h t. le_trans (mul-le-mul_right e.consume less) (lets.others h t);
  own = λ h t p. lets.own h t (omega arith);
}

-- A channel that does not lead to v lets it fire as often as is asked.
lets_other : {e : Channel} {held v k : ℕ} → e.head ≢ v → Lets e held v k
lets_other n = record { others = λ h. absurd (n h); own = λ h. absurd (n h) }

-- A walk along the channels into v: k is the greatest number, up to `short`, that those passed let v fire; no number that all
-- channels allow is greater.
pub record Allowing (channel : ℕ → Channel) (n : ℕ) (s : State) (v short at k : ℕ) : Type 0 where
  pub walked : Walked (λ c. (channel c).head) v n at (λ c. Lets (channel c) (s c) v k)
  pub within : k ≤ short
  pub greatest : (j : ℕ) → j ≤ short → Allows channel n s v j → j ≤ k

pub allowing_turn : {channel : ℕ → Channel} {n : ℕ} {s : State} {v short at next c k k' : ℕ} → Allowing channel n s v short at k → at ≡ c + 1
    → Chain (λ c. (channel c).head) v c next → Greatest (Lets (channel c) (s c) v) k k' → Allowing channel n s v short next k'
allowing_turn {c = c} before here chain one = record {
  walked = walked_turn _ before.walked here chain (λ d _ n. lets_other n) one.holds (λ d _ lets. lets_fewer one.within lets);
  within = le_trans one.within before.within;
  greatest = λ j l all. one.greatest j (before.greatest j l all) (all c (omega (arith, before.walked.within)));
}

-- What one firing of v removes from a channel and adds to it, by the channel's ends.
pub removed_all : (e : Channel) (v : ℕ) → e.head ≡ v → removed e v ≡ e.consume
unfolding removed
removed_all e v h = chosen e.consume 0 h

pub removed_none : (e : Channel) (v : ℕ) → e.head ≢ v → removed e v ≡ 0
unfolding removed
removed_none e v n = passed e.consume 0 n

pub added_all : (e : Channel) (v : ℕ) → e.tail ≡ v → added e v ≡ e.produce
unfolding added
added_all e v t = chosen e.produce 0 t

pub added_none : (e : Channel) (v : ℕ) → e.tail ≢ v → added e v ≡ 0
unfolding added
added_none e v n = passed e.produce 0 n

-- A walk along the channels out of v: those passed have got what k firings produce.
pub record Putting (channel : ℕ → Channel) (n v k at : ℕ) (tokens ready tokens' ready' : List ℕ) : Type 0 where
  pub changed : Changed (λ c. (channel c).tail) v n at (λ c. PutOn (channel c) v k ready') tokens tokens'
  pub kept : (w : ℕ) → get_or ready' w 0 ≡ 0 → get_or ready w 0 ≡ 0

-- A channel that does not lead from v gets nothing.
put_other : {e : Channel} {v k held : ℕ} {ready : List ℕ} → e.tail ≢ v → PutOn e v k ready held held
put_other {e} {v} n = record { more = rw (added_none e v n) (omega arith); woken = λ w _ _ t. absurd (n t) }

pub putting_start : {channel : ℕ → Channel} {n v k at : ℕ} {tokens ready : List ℕ} → Chain (λ c. (channel c).tail) v n at → Putting channel n v k at tokens ready tokens ready
putting_start {tokens = tokens} chain = record { changed = changed_start _ tokens chain (λ c x n. put_other n); kept = λ w z. z }

pub putting_turn : {channel : ℕ → Channel} {n v k at next c there : ℕ} {e : Channel} {tokens ready tokens' ready' ready'' : List ℕ} → Putting channel n v k at tokens ready tokens' ready'
    → at ≡ c + 1 → c < length tokens' → Chain (λ c. (channel c).tail) v c next → e ≡ channel c → there ≡ get_or tokens' c 0 + k * e.produce
    → Woken e v there ready' ready'' → Putting channel n v k next tokens ready (set tokens' c there) ready''
putting_turn {v = v} {c = c} {e = e} before here room chain is more woken = record {
  changed = changed_turn _ before.changed here room chain (λ d x n. put_other n)
      (λ d x y put. record { more = put.more; woken = λ w z. put.woken w (woken.kept w z) })
      (rw (← is) record { more = rw (added_all e v (ap (λ (e : Channel). e.tail) is ∙ before.changed.walked.ends c here)) more; woken = λ w z n _. woken.woken w z n });
  kept = λ w z. before.kept w (woken.kept w z);
}

-- A walk along the channels into v: those passed have lost what k firings consume.
abbrev pub Taking : (ℕ → Channel) → ℕ → ℕ → ℕ → ℕ → List ℕ → List ℕ → Type 0
Taking channel n v k at tokens tokens' = Changed (λ c. (channel c).head) v n at (λ c. TakenOff (channel c) v k) tokens tokens'

-- A channel that does not lead to v loses nothing.
take_other : {e : Channel} {v k held : ℕ} → e.head ≢ v → TakenOff e v k held held
take_other {e} {v} n = record { less = rw (removed_none e v n) (omega arith) }

pub taking_start : {channel : ℕ → Channel} {n v k at : ℕ} {tokens : List ℕ} → Chain (λ c. (channel c).head) v n at → Taking channel n v k at tokens tokens
taking_start {tokens = tokens} chain = changed_start _ tokens chain (λ c x n. take_other n)

-- The next channel holds what is taken off.
pub taking_enough : {channel : ℕ → Channel} {n v k at c : ℕ} {e : Channel} {tokens tokens' : List ℕ} → Taking channel n v k at tokens tokens'
    → at ≡ c + 1 → e ≡ channel c → ((c : ℕ) → c < n → k * removed (channel c) v ≤ get_or tokens c 0) → (k * e.consume ≤ get_or tokens c 0) × (get_or tokens' c 0 ≡ get_or tokens c 0)
taking_enough {channel} {v = v} {c = c} walk here same enough =
    rw same (rw (removed_all (channel c) v (walk.walked.ends c here)) at (enough c (omega (arith, walk.walked.within))), walk.ahead c (omega arith))

pub taking_turn : {channel : ℕ → Channel} {n v k at next c : ℕ} (there : ℕ) {e : Channel} {tokens tokens' : List ℕ} → Taking channel n v k at tokens tokens'
    → at ≡ c + 1 → c < length tokens' → Chain (λ c. (channel c).head) v c next → e ≡ channel c → there + k * e.consume ≡ get_or tokens' c 0
    → Taking channel n v k next tokens (set tokens' c there)
taking_turn {v = v} {c = c} there {e = e} before here room chain is less =
    changed_turn _ before here room chain (λ d x n. take_other n) (λ d x y off. off)
    (rw (← is) record { less = rw (removed_all e v (ap (λ (e : Channel). e.head) is ∙ before.walked.ends c here)) less })

module _ {channel : ℕ → Channel} {n v k : ℕ} {tokens ready tokens' ready' : List ℕ} (put : Put channel n v k tokens ready tokens' ready') where
  -- What was put and what the channels allow is enough to take.
  pub put_enough : Fireable channel n v k tokens ready → (c : ℕ) → c < n → k * removed (channel c) v ≤ get_or tokens' c 0
  put_enough fireable c l =
      let e = channel c in
      ⊎_elim
      (λ h. rw (removed_all e v h) (⊎_elim
      (λ t. omega (arith, rw (added_all e v t, fireable.restores c l (t ∙ sym h)) at (put.on c l).more))
      (λ m. omega (arith, (put.on c l).more, (fireable.allows c l).others h m))
      (eq_or_ne e.tail v)))
      (λ m. rw (removed_none e v m) (omega arith))
      (eq_or_ne e.head v)
