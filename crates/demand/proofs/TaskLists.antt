-- 01, Task list: its numbers, actor by actor, and how they are written.
use mathlib.Core.Path.{◌≡◌, ◌∙◌, refl, ap}
use mathlib.Core.Bool.{Bool, true, false, cond}
use mathlib.Core.List.{List, [], ◌∷◌, ◌++◌}
use mathlib.Core.Logic.{⊎_elim, ◌≢◌}
use Prim.Native.Nat.{ℕ, zero, suc, ◌+◌, ◌*◌, ◌-◌, ◌%◌, ◌/◌, ◌^◌, ◌<◌, ◌≤◌}
use native.Mathlib.Nat.{le_of_eq, eq-or-lt_of_le, le_of_suc-le-suc}
use native.Mathlib.Numerals.{add-one}
use native.Mathlib.Omega.{arith}
use lib.Dec.{eqb}
use lib.ListN.{length, drop, length-append}
use borrow.Author.Tests.{eq-eqb, ne_eqb}
use Rattle.sdf.proofs.Numbers.{eq_or_ne}
use Rattle.edf.specs.Bounds.{Bounded}
use Rattle.edf.specs.Demand.{Work}
use Rattle.edf.specs.Tasks.{Task, actor_tasks, tasks_to, tasks, task_numbers}
use Rattle.edf.proofs.Fits.{TasksFit, fits_tasks}
use Rattle.demand.specs.Written.{Wrote}
use Rattle.demand.proofs.Writes.{wrote_then, wrote_length, wrote_front}

-- The task list's numbers for the first v actors.
abbrev pub numbers_to : Work → ℕ → List ℕ
numbers_to w v = task_numbers (tasks_to w v)

-- The numbers of actor v's tasks.
abbrev pub actor_numbers : Work → ℕ → List ℕ
actor_numbers w v = task_numbers (actor_tasks w v)

-- The numbers of actor v's first task.
abbrev pub first_task : Work → ℕ → List ℕ
first_task w v =
    ((w.repetition v - w.skip v % w.repetition v) * w.time v) ∷
    (w.skip v / w.repetition v * w.period + w.deadline) ∷ w.period ∷ []

-- The numbers of actor v's second task.
abbrev pub second_task : Work → ℕ → List ℕ
second_task w v =
    (w.skip v % w.repetition v * w.time v) ∷ ((w.skip v / w.repetition v + 1) * w.period + w.deadline) ∷ w.period ∷ []

numbers_append : (ks ls : List Task) → task_numbers (ks ++ ls) ≡ task_numbers ks ++ task_numbers ls
unfolding task_numbers
numbers_append [] ls = refl
numbers_append (k ∷ ks) ls = ap (λ (l : List ℕ). k.cost ∷ k.deadline ∷ k.period ∷ l) (numbers_append ks ls)

numbers_next : (w : Work) (v : ℕ) → numbers_to w (v + 1) ≡ numbers_to w v ++ actor_numbers w v
unfolding tasks_to
numbers_next w v = rw add-one (numbers_append (tasks_to w v) (actor_tasks w v))

-- With a skip that is a multiple of the repetition number an actor has one task.
pub one_task : (w : Work) (v : ℕ) → w.skip v % w.repetition v ≡ 0 → actor_numbers w v ≡ first_task w v
unfolding actor_tasks task_numbers
one_task w v e = rw (eq-eqb (w.skip v % w.repetition v) 0 e)

-- With any other it has two.
pub two_tasks : (w : Work) (v : ℕ) → w.skip v % w.repetition v ≢ 0 → actor_numbers w v ≡ first_task w v ++ second_task w v
unfolding actor_tasks task_numbers
two_tasks w v n = rw (ne_eqb (w.skip v % w.repetition v) 0 n)

actor_length : (w : Work) (v : ℕ) → length (actor_numbers w v) ≡ cond (eqb (w.skip v % w.repetition v) 0) 3 6
actor_length w v = ⊎_elim
    (λ e. ap length (one_task w v e) ∙ rw (eq-eqb (w.skip v % w.repetition v) 0 e))
    (λ n. ap length (two_tasks w v n) ∙ rw (ne_eqb (w.skip v % w.repetition v) 0 n))
    (eq_or_ne (w.skip v % w.repetition v) 0)

-- An actor has a task.
pub some_task : (w : Work) (v : ℕ) → 3 ≤ length (actor_numbers w v)
some_task w v = ⊎_elim
    (λ e. omega (arith, ap length (one_task w v e))) (λ n. omega (arith, ap length (two_tasks w v n)))
    (eq_or_ne (w.skip v % w.repetition v) 0)

three_or_six : (t : Bool) → cond t 3 6 ≤ 6
three_or_six true = omega arith
three_or_six false = omega arith

length_next : (w : Work) (v : ℕ) → length (numbers_to w (v + 1)) ≡ length (numbers_to w v) + length (actor_numbers w v)
length_next w v = ap length (numbers_next w v) ∙ length-append (numbers_to w v) (actor_numbers w v)

length_at_most : (w : Work) (v : ℕ) → length (numbers_to w v) ≤ 6 * v
unfolding tasks_to task_numbers
length_at_most w zero = omega arith
length_at_most w (suc v) = omega (
  arith,
  length_at_most w v,
  rw add-one at (length_next w v),
  actor_length w v,
  three_or_six
      (eqb (w.skip v % w.repetition v) 0),
)

length_mono : (w : Work) (v n : ℕ) → v ≤ n → length (numbers_to w v) ≤ length (numbers_to w n)
length_mono w v zero h = le_of_eq (ap (λ (k : ℕ). length (numbers_to w k)) (omega arith))
length_mono w v (suc n) h = ⊎_elim
    (λ e. le_of_eq (ap (λ (k : ℕ). length (numbers_to w k)) e))
    (λ l. omega (arith, length_mono w v n (le_of_suc-le-suc l), rw add-one at (length_next w n)))
    (eq-or-lt_of_le h)

module _ {w : Work} (b : Bounded w) {v : ℕ} {n : ℕ} (e : n ≡ length (numbers_to w v)) where
  -- The numbers of one more actor's tasks: they fit, and are counted.
  pub counted : v < w.actors → {k : ℕ} → k ≡ cond (eqb (w.skip v % w.repetition v) 0) 3 6
      → (n + k < 2 ^ 64) × (n + k ≡ length (numbers_to w (v + 1)))
  counted m {k} d =
      let sum : n + k ≡ length (numbers_to w (v + 1)) = omega (arith, length_next w v, actor_length w v) in
      (omega (arith, length_at_most w (v + 1), b.actors), sum)

  -- At the end the whole list is counted.
  pub counted_whole : v ≡ w.actors → n ≡ length (task_numbers (tasks w))
  unfolding tasks
  counted_whole m = e ∙ ap (λ (k : ℕ). length (numbers_to w k)) m

-- Actor v of a graph, by itself.
abbrev pub actor_alone : Work → ℕ → Work
actor_alone w v = record {
  period = w.period;
  deadline = w.deadline;
  actors = 1;
  time = λ u. w.time v;
  repetition = λ u. w.repetition v;
  skip = λ u. w.skip v;
}

-- The task list of a graph is written into `now`, lent as `before`: the numbers of the first v actors are there.
abbrev pub Listing : Work → (before now : List ℕ) (to v : ℕ) → Type 0
Listing w before now to v = Wrote before 0 (numbers_to w v) now to

module _ {w : Work} (b : Bounded w) {before now : List ℕ} {to v : ℕ} (h : length (task_numbers (tasks w)) ≤ length before)
    (l : Listing w before now to v) where
  -- At the end the task list stands in the first places, and the rest is as it was.
  pub listing_end : v ≡ w.actors → now ≡ task_numbers (tasks w) ++ drop (length (task_numbers (tasks w))) before
  unfolding tasks
  listing_end e = wrote_front h (rw e at l)

  module _ (m : v < w.actors) where
    -- The next actor's tasks can be written.
    pub listing_asked : (0 < w.repetition v) × (0 < w.period) × TasksFit (actor_alone w v) 0
        × (to + length (actor_numbers (actor_alone w v) 0) ≤ length now)
    unfolding actor_tasks tasks
    listing_asked =
        let f = fits_tasks b m in
        let next = length_mono w (v + 1) w.actors (omega (arith, m)) in (
          b.repetition_low v m,
          b.period_low,
          record {
            first_cost = f.first_cost;
            first_deadline = f.first_deadline;
            second_cost = f.second_cost;
            second_deadline = f.second_deadline;
            period = f.period;
          },
          omega (arith, h, l.place, wrote_length l, length_next w v, next),
        )

    -- They are written.
    pub listing_turn : {after : List ℕ} {next : ℕ} → Wrote now to (actor_numbers (actor_alone w v) 0) after next
        → Listing w before after next (v + 1)
    unfolding actor_tasks
    listing_turn f = rw (numbers_next w v) (wrote_then l f)
