-- 01, answer 21: the frame of the search, that of the graphs whose iteration takes time.
use mathlib.Core.Path.{◌≡◌, refl}
use mathlib.Core.Logic.{inl, inr, ◌⊎◌, ◌≢◌}
use Prim.Native.Nat.{ℕ, zero, suc, ◌<◌, ◌≤◌, ◌∣◌}
use native.Mathlib.Nat.{dvd_refl, one-dvd}
use native.Mathlib.Omega.{arith}
use Rattle.units.specs.Bounds.{max_ticks}
use Rattle.edf.specs.Bounds.{AllBounded}
use Rattle.edf.specs.Demand.{Works, iteration}
use Rattle.edf.specs.Frame.{CommonMultiple}
use Rattle.edf.proofs.Frame.{frame_divides}
use Rattle.late.specs.Search.{counted, busy_period, Carries}
use Rattle.demand.proofs.Multiples.{Frames, frames_whole}

-- Without weight the period does not count.
pub counted_none : (p : ℕ) {w : ℕ} → w ≡ 0 → 1 ≡ counted p w
unfolding counted
counted_none p z = rw z refl

-- With weight it does.
pub counted_whole : (p w : ℕ) → w ≢ 0 → p ≡ counted p w
unfolding counted
counted_whole p zero n = absurd (n refl)
counted_whole p (suc w) n = refl

counted_bounds : (p w : ℕ) → 0 < p → p ≤ max_ticks → (0 < counted p w) × (counted p w ≤ max_ticks)
unfolding counted
counted_bounds p zero l h = (omega arith, omega arith)
counted_bounds p (suc w) l h = (l, h)

counted_divides : (p w : ℕ) {m : ℕ} → p ∣ m → counted p w ∣ m
unfolding counted
counted_divides p zero {m} d = one-dvd m
counted_divides p (suc w) d = d

counted_carries : (p w : ℕ) {m : ℕ} → counted p w ∣ m → (p ∣ m) ⊎ (w ≡ 0)
unfolding counted
counted_carries p zero d = inr refl
counted_carries p (suc w) d = inl d

module _ (ws : Works) where
  -- The frame itself carries.
  pub frame_carries : {F : ℕ} → CommonMultiple ws.graphs (λ i. (ws.work i).period) F → Carries ws F F
  frame_carries {F} m = record { positive = m.positive; divides = dvd_refl F; each = λ i l. inl (m.multiple i l) }

  -- The periods that count are within the bounds of periods.
  pub busy_bounds : AllBounded ws → (i : ℕ) → i < ws.graphs → (0 < busy_period ws i) × (busy_period ws i ≤ max_ticks)
  busy_bounds b i l =
      let w = ws.work i in
      counted_bounds w.period (iteration w) (b.work i l).period_low (b.work i l).period_high

  -- The frame of those that count carries.
  pub busy_carries : {i f F : ℕ} → Frames ws.graphs (busy_period ws) f i → ws.graphs ≤ i
      → CommonMultiple ws.graphs (λ i. (ws.work i).period) F → Carries ws F f
  busy_carries g l m =
      let b = (frames_whole g l).0 in
      record {
        positive = b.common.positive;
        divides = frame_divides b
            (record { positive = m.positive; multiple = λ k h. counted_divides (ws.work k).period (iteration (ws.work k)) (m.multiple k h) });
        each = λ k h. counted_carries (ws.work k).period (iteration (ws.work k)) (b.common.multiple k h);
      }
