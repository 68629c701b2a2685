-- `calls::pack` meets its contract: past the lines 3 to 12 only 14 is left.
use mathlib.Core.Path.{◌∙◌}
use Rattle.ready.specs.Lines.{ready}
use Rattle.shambrukit.proofs.Prepares.{pack_whole}
use Rattle.shambrukit.proofs.calls.pack.Goals as goal

pub returns : goal.returns
returns c =
    let (js, lines, count, stands, framed) = c.in_ok-prepare.ensures in
    (ready js _, lines, c.list.ensures.answer ∙ pack_whole _ _ js _ lines, c.list.ensures.memory)
