-- `entries` meets its contract. The invariant: who is below v and not in `set` has all its tails in `zero`.
use Rattle.repeat.proofs.Drawing.{words_of}
use Rattle.graph.proofs.Lowering.{entering_start, entering_turn, entering_end}
use Rattle.graph.proofs.skip.entries.Goals as goal

pub loop-v-init : goal.loop-v-init
loop-v-init c =
    entering_start

pub loop-v-preserved : goal.loop-v-preserved
loop-v-preserved c =
    entering_turn c.minus.result c.loop-v.invariant c.minus.ensures.0 c.with-set.ensures

pub returns : goal.returns
returns c =
    entering_end c.args.chart.now.net.now.drawn (words_of c.args.chart.now.words) c.loop-v.auto.v-end c.loop-v-test.false c.loop-v.invariant c.common.ensures.0
