-- `calls::unpack` meets its contract: past the lines 1 to 12 only 14 is left.
use mathlib.Core.Path.{◌∙◌}
use Rattle.ready.specs.Lines.{ready}
use Rattle.shambrukit.proofs.Prepares.{unpack_ready}
use Rattle.shambrukit.proofs.calls.unpack.Goals as goal

pub returns : goal.returns
returns c =
    let (js, lines, count, stands, framed) = c.in_ok-prepare.ensures in
    (ready js _, lines, c.sheet.ensures.answer ∙ unpack_ready _ _ js _ lines, c.sheet.ensures.memory)
