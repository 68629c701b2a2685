-- `check::sheet`: length and version, then the graphs, each line with its own refusal.
use mathlib.Core.Path.{◌≡◌, sym, ◌∙◌}
use mathlib.Core.List.{List}
use Rattle.std.specs.Prelude.{Err}
use Prim.Native.Nat.{ℕ, ◌≤◌, ◌<◌}
use lib.ListN.{length, get_or, drop}
use borrow.Author.Tests.{le-leb, lt-leb, eq-eqb, ne_eqb}
use Rattle.sheet.specs.declared.Refusal.TheVariants.{Length, Version}
use Rattle.sheet.specs.Layout.{in_bytes}
use Rattle.sheet.specs.Fields.{big_endian}
use Rattle.sheet.specs.Check.{check_graphs, check_sheet}
use Rattle.sheet.proofs.Walk.{part_is_drop}
use Rattle.sheet.proofs.check.sheet.Goals.{then-s-lt4-via-then-s-lt4, then-s-lt4-via-else-s-lt4+then-two-s}
use Rattle.sheet.proofs.check.sheet.Goals as goal

module _ (s : List ℕ) (h : 4 ≤ length s) where
  wrong_length : (big_endian 2 s ≡ length s → ⊥) → check_sheet s ≡ Err Length
  unfolding check_sheet
  wrong_length d = rw (le-leb _ _ h, ne_eqb _ _ d)

  other_version : big_endian 2 s ≡ length s → (get_or s 2 0 ≡ 1 → ⊥) → check_sheet s ≡ Err Version
  unfolding check_sheet
  other_version e d = rw (le-leb _ _ h, eq-eqb _ _ e, ne_eqb _ _ d)

  graphs : big_endian 2 s ≡ length s → get_or s 2 0 ≡ 1 → check_sheet s ≡ check_graphs in_bytes (get_or s 3 0) (drop 4 s)
  unfolding check_sheet
  graphs e v = rw (le-leb _ _ h, eq-eqb _ _ e, eq-eqb _ _ v)

short : (s : List ℕ) → length s < 4 → check_sheet s ≡ Err Length
unfolding check_sheet
short s h = rw (lt-leb _ _ h)

pub returns-then-s-lt4 : goal.returns-then-s-lt4
returns-then-s-lt4 c =
    elim c.then-s-lt4.branch [
      | then-s-lt4-via-then-s-lt4 w ↦ sym (short _ w.if-s-lt4.true)
      | then-s-lt4-via-else-s-lt4+then-two-s w ↦ sym (wrong_length _ w.if-s-lt4.false (λ e. w.if-two-s.true (w.two.ensures.0 ∙ e)))
    ]

pub returns-then-s-ne1 : goal.returns-then-s-ne1
returns-then-s-ne1 c =
    sym (other_version _ c.if-s-lt4.false (sym c.two.ensures.0 ∙ c.if-two-s.false) c.if-s-ne1.true)

pub returns : goal.returns
returns c =
    rw part_is_drop at c.graphs.ensures ∙ sym (graphs _ c.if-s-lt4.false (sym c.two.ensures.0 ∙ c.if-two-s.false) c.if-s-ne1.false)
