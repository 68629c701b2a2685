-- 01, answers 5 and 6, and Bounds: a graph that passes them is sound and within bounds, and so is what demand sees of it.
use mathlib.Core.Path.{◌≡◌, ap, ◌∙◌}
use mathlib.Core.Bool.{true}
use mathlib.Core.List.{List, [], ◌∷◌}
use Prim.Native.Nat.{ℕ, zero, suc, ◌+◌, ◌-◌, ◌*◌, ◌%◌, ◌<◌, ◌≤◌}
use native.Mathlib.Nat.{le_trans, le_of_suc-le-suc, not-suc-le-zero, mul-le-mul_right, add-zero}
use native.Mathlib.Omega.{arith}
use lib.Dec.{leb}
use lib.ListN.{length, get_or, drop, length-drop}
use lib.Seq.{get_or-take, get_or-drop, length-take-le}
use borrow.Author.Tests.{leb-true}
use Rattle.units.specs.Bounds.{max_actors, max_channels, max_repetition, max_ticks, max_time, max_tokens}
use Rattle.units.specs.Within.{between}
use Rattle.sdf.specs.Graph.{Reached}
use Rattle.sdf.specs.Balance.{Balances}
use Rattle.sdf.proofs.Skip.{skips_bounded}
use Rattle.edf.specs.Bounds.{Bounded}
use Rattle.trial.specs.Flat.{vector, Drawn}
use Rattle.sheet.specs.Field.{Field}
use Rattle.sheet.specs.Layout.{none, fixed_part, channel_part, total, in_numbers}
use Rattle.sheet.specs.Fields.{in_range}
use Rattle.sheet.specs.Check.{actor_count, channel_count, sized, stretch, times_of, channels_of}
use Rattle.sheet.specs.Forms.{layout_of}
use Rattle.sheet.proofs.Walk.{and_true, sized_gives}
use Rattle.sheet.proofs.GraphLayout.{layout_numbers, layout_length, layout_fixed, layout_actor, layout_channel}
use Rattle.ready.specs.Graphs.{drawn, judged, RepetitionNumbers, SkipNumbers, work_of}

-- A field's number is within its bounds.
abbrev Inside : Field → ℕ → Type 0
Inside f n = (f.low ≤ n) × (n ≤ f.high)

-- Each number of a list in range is within the bounds of its field.
range_at : (L : List Field) (l : List ℕ) → in_range L l ≡ true → (i : ℕ) → i < length L → Inside (get_or L i none) (get_or l i 0)
unfolding in_range
range_at [] l e i h = absurd (not-suc-le-zero h)
range_at (f ∷ L) l e zero h =
    let both : (between f.low f.high (get_or l 0 0) ≡ true) × (in_range L (drop 1 l) ≡ true) = and_true _ _ e in
    let within : (leb f.low (get_or l 0 0) ≡ true) × (leb (get_or l 0 0) f.high ≡ true) = and_true _ _ both.0 in
    (leb-true _ _ within.0, leb-true _ _ within.1)
range_at (f ∷ L) l e (suc i) h =
    let both : (between f.low f.high (get_or l 0 0) ≡ true) × (in_range L (drop 1 l) ≡ true) = and_true _ _ e in
    let t : get_or (drop 1 l) i 0 ≡ get_or l (suc i) 0 = get_or-drop 1 l i 0 ∙ ap (λ (k : ℕ). get_or l k 0) (omega arith) in
    rw t at (range_at L (drop 1 l) both.1 i (le_of_suc-le-suc h))

module _ (l : List ℕ) (counts : sized l ≡ true) (whole : stretch in_numbers l ≤ length l) where
  long : 6 + actor_count l + 5 * channel_count l ≤ length l
  unfolding stretch
  long = omega (arith, layout_numbers (actor_count l) (channel_count l))

  -- There is a worst-case time for each actor.
  pub times_length : length (times_of l) ≡ actor_count l
  times_length = length-take-le _ _ (omega (arith, length-drop 6 l, long))

  -- There are five numbers for each channel.
  pub channels_length : length (channels_of l) ≡ 5 * channel_count l
  channels_length = length-take-le _ _ (omega (arith, length-drop (6 + actor_count l) l, long))

  -- As many channels are drawn as the channel count says.
  pub drawn_channels : (drawn l).channels ≡ channel_count l
  drawn_channels = rw channels_length (omega arith)

  -- A drawn graph has at most 32 actors and 64 channels.
  pub drawn_few : ((drawn l).actors ≤ max_actors) × ((drawn l).channels ≤ max_channels)
  drawn_few = ((sized_gives l counts).actors, rw drawn_channels (sized_gives l counts).channels)

  module _ (range : in_range (layout_of l) l ≡ true) where
    field : (i : ℕ) → i < 6 + actor_count l + 5 * channel_count l → Inside (get_or (layout_of l) i none) (get_or l i 0)
    field i h = range_at (layout_of l) l range i (omega (arith, layout_length (actor_count l) (channel_count l), layout_numbers (actor_count l) (channel_count l)))

    fixed_field : (i : ℕ) → i < 6 → Inside (get_or (fixed_part (actor_count l)) i none) (get_or l i 0)
    fixed_field i h = rw (layout_fixed (actor_count l) (channel_count l) i h) at (field i (omega arith))

    -- A period is 1 to ten million ticks.
    pub period_within : (0 < get_or l 4 0) × (get_or l 4 0 ≤ max_ticks)
    unfolding fixed_part
    period_within = fixed_field 4 (omega arith)

    -- So is a deadline.
    pub deadline_within : (0 < get_or l 5 0) × (get_or l 5 0 ≤ max_ticks)
    unfolding fixed_part
    deadline_within = fixed_field 5 (omega arith)

    -- A worst-case time is at most a hundred thousand ticks.
    pub time_within : (v : ℕ) → v < actor_count l → get_or (times_of l) v 0 ≤ max_time
    time_within v h =
        let e : get_or (times_of l) v 0 ≡ get_or l (6 + v) 0 = get_or-take _ _ v 0 h ∙ get_or-drop 6 l v 0 in
        rw e (rw (layout_actor (actor_count l) (channel_count l) (6 + v) (omega arith) (omega arith)) at (field (6 + v) (omega arith))).1

    channel_field :
        (c r : ℕ) → c < (drawn l).channels → r < 5 →
        Inside (get_or (channel_part (actor_count l)) r none) (get_or (channels_of l) (5 * c + r) 0)
    channel_field c r h k =
        let i : ℕ = 6 + actor_count l + (5 * c + r) in
        let inside : 5 * c + r < 5 * channel_count l = omega (arith, drawn_channels) in
        let e : get_or (channels_of l) (5 * c + r) 0 ≡ get_or l i 0 = get_or-take _ _ (5 * c + r) 0 inside ∙ get_or-drop (6 + actor_count l) l (5 * c + r) 0 in
        let d : (i - 6 - actor_count l) % 5 ≡ r = omega arith in
        let last : i < total in_numbers (layout_of l) = omega (arith, layout_numbers (actor_count l) (channel_count l)) in
        let f = layout_channel (actor_count l) (channel_count l) i (omega arith) (omega arith) last in
        rw e (rw (f, d) at (field i (omega arith)))

    -- The graph is sound and within the bounds of the engine.
    pub drawn_sound : Drawn (drawn l)
    unfolding fixed_part channel_part
    drawn_sound = record {
      sound = record {
        input = omega (arith, some, (fixed_field 2 (omega arith)).1);
        output = omega (arith, some, (fixed_field 3 (omega arith)).1);
        tail = λ c h. omega (arith, some, rw (add-zero (5 * c)) at (channel_field c 0 h (omega arith)).1);
        head = λ c h. omega (arith, some, (channel_field c 1 h (omega arith)).1);
        produce = λ c h. (channel_field c 2 h (omega arith)).0;
        consume = λ c h. (channel_field c 3 h (omega arith)).0;
      };
      actors = omega (arith, drawn_few.0);
      channels = omega (arith, drawn_few.1);
      produce = λ c h. (channel_field c 2 h (omega arith)).1;
      consume = λ c h. (channel_field c 3 h (omega arith)).1;
      tokens = λ c h. (channel_field c 4 h (omega arith)).1;
    }
      where
        some : 1 ≤ actor_count l
        some = (sized_gives l counts).some

    -- What demand sees of a judged graph is within bounds.
    pub bounded_judged :
        (q s : List ℕ) → Reached (drawn l) → Balances (drawn l) max_repetition → RepetitionNumbers (drawn l) q → SkipNumbers (drawn l) s →
        Bounded (work_of (judged l q s))
    bounded_judged q s reached balances repetition skips =
        let below : (v : ℕ) → v < length (times_of l) → v < actor_count l = λ v h. omega (arith, times_length) in
        record {
          period_low = period_within.0;
          period_high = period_within.1;
          deadline_low = deadline_within.0;
          deadline_high = deadline_within.1;
          actors = omega (arith, times_length, drawn_sound.actors);
          time = λ v h. time_within v (below v h);
          repetition_low = λ v h. repetition.repetition.balanced.positive v (below v h);
          repetition_high = λ v h. le_trans (repetition.repetition.least balances.0 balances.1 v (below v h)) (balances.2 v (below v h));
          skip = λ v h.
              le_trans
              (skips_bounded (drawn l) (vector q) (vector s) max_tokens drawn_sound.sound reached repetition.repetition.balanced drawn_sound.tokens skips.skips v (below v h))
              (mul-le-mul_right (vector q v) (mul-le-mul_right max_tokens drawn_sound.actors));
        }
