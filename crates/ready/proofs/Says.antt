-- 01, answers 6 to 11 for one graph: what the engine says of it is what the lines say.
use mathlib.Core.Path.{◌≡◌, refl, sym}
use mathlib.Core.Bool.{true, false}
use mathlib.Core.List.{List}
use Prim.Native.Nat.{ℕ, ◌<◌, ◌≤◌}
use native.Mathlib.Omega.{arith}
use lib.ListN.{length, take}
use lib.Seq.{length-take-le, get_or-take}
use Rattle.std.specs.Prelude.{Result, Ok, Err}
use Rattle.std.specs.Result.{MatchResult, IsErrAnd}
use Rattle.units.specs.Bounds.{max_repetition}
use Rattle.sdf.specs.Graph.{Graph, Sound}
use Rattle.sdf.specs.Balance.{Balances}
use Rattle.sdf.specs.Skip.{Skips}
use Rattle.trial.specs.Flat.{vector}
use Rattle.repeat.specs.Repetition.{Repeats}
use Rattle.graph.specs.Judged as engine
use Rattle.graph.specs.declared.Fault.{Fault}
use Rattle.graph.specs.declared.Fault.TheVariants.{Reach, Balance, NotOnce, Deadlock, Restless}
use Rattle.sheet.specs.declared.Refusal.{Refusal}
use Rattle.sheet.specs.declared.Refusal.TheVariants.{Range}
use Rattle.sheet.specs.Answer.{Answer}
use Rattle.sheet.specs.Layout.{in_numbers}
use Rattle.sheet.specs.Fields.{in_range}
use Rattle.sheet.specs.Check.{actor_count, sized, stretch}
use Rattle.sheet.specs.Forms.{layout_of}
use Rattle.sheet.proofs.Walk.{sized_gives}
use Rattle.ready.specs.Graphs.{Judged, drawn, judged, RepetitionNumbers, SkipNumbers}
use Rattle.ready.specs.Lines.{Outcome, Unless, fail, meet, With, given, graph_lines}
use Rattle.ready.specs.Ready.{refusal_of, Met, Refuses, Says}
use Rattle.ready.proofs.Sound.{drawn_sound}
use Rattle.ready.proofs.Agree.{repetition_agrees, skips_agree, once_agrees, lives_agrees}

module _ {o : Outcome} where
  unless_map :
      {C : Type 0} {r : Refusal} {below above : C → Outcome → Type 0} → ((c : C) → below c o → above c o) →
      Unless C r below o → Unless C r above o
  unless_map f (fail n e) = fail n e
  unless_map f (meet c b) = meet c (f c b)

  with_map :
      {X : List ℕ → Type 0} {below above : List ℕ → Outcome → Type 0} → ((x : List ℕ) → below x o → above x o) →
      With X below o → With X above o
  with_map f (given x k b) = given x k (f x b)

-- A refusal of answers 6 to 11 stands whatever is below them.
pub refuses_any :
    (o : Outcome) (k : ℕ) (l : List ℕ) (below : Judged → Outcome → Type 0) → graph_lines k l (λ _ _. ⊥) o → graph_lines k l below o
unfolding graph_lines
refuses_any o k l below =
    unless_map (λ _.
    unless_map (λ _.
    unless_map (λ _.
    with_map (λ q.
    unless_map (λ _.
    unless_map (λ _.
    unless_map (λ _.
    with_map (λ s b. absurd b))))))))

-- Past a graph that meets them, the lines below decide.
pub met_lines :
    (o : Outcome) (k : ℕ) (l : List ℕ) (below : Judged → Outcome → Type 0) {q s : List ℕ} → Met l q s → below (judged l q s) o →
    graph_lines k l below o
unfolding graph_lines
met_lines o k l below {q} {s} m b =
    meet m.range (meet m.reached (meet m.balances (given q m.repetition
    (meet m.once (meet m.lives (meet m.rest (given s m.skips b)))))))

-- A graph out of range.
pub says_range : (k : ℕ) (l : List ℕ) → in_range (layout_of l) l ≡ false → Refuses k l (Range k)
unfolding graph_lines
says_range k l e = fail (λ d. let z : ◌≡◌ {A = ℕ} 0 1 = cc in omega arith) refl

module _ (g : Graph) (sound : Sound g) (x : List ℕ) (room : g.actors ≤ length x) where
  each : length (take g.actors x) ≡ g.actors
  each = length-take-le g.actors x room

  same : (v : ℕ) → v < g.actors → vector (take g.actors x) v ≡ vector x v
  same v h = get_or-take g.actors x v 0 h

  first_repetition : Repeats g x → RepetitionNumbers g (take g.actors x)
  first_repetition r = record { each = each; repetition = repetition_agrees g sound same r.repetition }

  first_skips : Skips g (vector x) → SkipNumbers g (take g.actors x)
  first_skips k = record { each = each; skips = skips_agree g sound same k }

balances : (g : Graph) (x : List ℕ) → Repeats g x → Balances g max_repetition
balances g x r = (vector x, r.repetition.balanced, r.bound)

-- What the engine answers, with the place of its graph.
abbrev pub answer_of : Result (Unit {0}) Fault → ℕ → Answer
answer_of (Ok _) k = Ok tt
answer_of (Err fault) k = Err (refusal_of fault k)

-- So does an answer whose refusal a closure gives that place.
pub placed :
    (found : Result (Unit {0}) Fault) (answer : Answer) {P : Fault → Refusal → Type 0} (k : ℕ) →
    MatchResult found (λ x. answer ≡ Ok x) (λ f. IsErrAnd answer (P f)) → ((f : Fault) (r : Refusal) → P f r → r ≡ refusal_of f k) →
    answer ≡ answer_of found k
placed (Ok x) answer k m h = m
placed (Err f) (Err r) k m h = rw (h f r m)
placed (Err f) (Ok x) k m h = absurd m

-- Answers 7 to 11 for a graph in range.
pub says :
    (k : ℕ) (l q s : List ℕ) → sized l ≡ true → stretch in_numbers l ≤ length l → 32 ≤ length q → 32 ≤ length s →
    in_range (layout_of l) l ≡ true → (found : Result (Unit {0}) Fault) → engine.Judged (drawn l) found q s → Says k l (answer_of found k) q s
unfolding graph_lines
says k l q s counts whole q_room s-room range found j = answered found j
  where
    sound : Sound (drawn l)
    sound = (drawn_sound l counts whole range).sound

    inside_q : actor_count l ≤ length q
    inside_q = omega (arith, (sized_gives l counts).actors)

    inside_s : actor_count l ≤ length s
    inside_s = omega (arith, (sized_gives l counts).actors)

    same_q : (v : ℕ) → v < actor_count l → vector (take (actor_count l) q) v ≡ vector q v
    same_q = same (drawn l) sound q inside_q

    back : (v : ℕ) → v < actor_count l → vector q v ≡ vector (take (actor_count l) q) v
    back v h = sym (same_q v h)

    numbers : Repeats (drawn l) q → RepetitionNumbers (drawn l) (take (actor_count l) q)
    numbers = first_repetition (drawn l) sound q inside_q

    answered : (found : Result (Unit {0}) Fault) → engine.Judged (drawn l) found q s → Says k l (answer_of found k) q s
    answered (Err Reach) n = meet range (fail n refl)
    answered (Err Balance) (reached, n) = meet range (meet reached (fail n refl))
    answered (Err NotOnce) (reached, r, n) =
        meet range (meet reached (meet (balances (drawn l) q r) (given _ (numbers r) (fail (λ o. n (once_agrees (drawn l) sound back o)) refl))))
    answered (Err Deadlock) (reached, r, once, n) =
        meet range (meet reached (meet (balances (drawn l) q r) (given _ (numbers r)
        (meet (once_agrees (drawn l) sound same_q once) (fail (λ o. n (lives_agrees (drawn l) sound back o)) refl)))))
    answered (Err Restless) (reached, r, once, lives, n) =
        meet range (meet reached (meet (balances (drawn l) q r) (given _ (numbers r)
        (meet (once_agrees (drawn l) sound same_q once) (meet (lives_agrees (drawn l) sound same_q lives) (fail n refl))))))
    answered (Ok _) (reached, r, once, lives, rest, skips) = record {
      range = range;
      reached = reached;
      balances = balances (drawn l) q r;
      repetition = numbers r;
      once = once_agrees (drawn l) sound same_q once;
      lives = lives_agrees (drawn l) sound same_q lives;
      rest = rest;
      skips = first_skips (drawn l) sound s inside_s skips;
    }
