-- `range::channels`: `all` over the chunks of five numbers.
use Rattle.std.proofs.Common.{rules}
use lib.Dec.{lit<}
use Rattle.sheet.specs.Layout.{channel_part}
use Rattle.sheet.specs.Sizes.{sizes_numbers}
use Rattle.sheet.proofs.Ranges.{chunks_all}
use Rattle.sheet.proofs.range.channels.Goals as goal

pub returns : goal.returns
returns c =
    let run = c.all.ensures.runs in
    let from = c.chunks_exact.ensures in
    let chunks = rw (run.1, from.size, from.rest) at (from.runs run.0 run.0.seen) in
    chunks_all (channel_part c.args.actors) c.args.l.now (lit< tt) (sizes_numbers.channel_is c.args.actors) run.0 (chunks (lit< tt)) (λ x b q h. search rules) c.all.result run.2
