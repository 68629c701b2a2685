-- `visit` carries every run on, by as many firings as the channels allow.
use mathlib.Core.Path.{refl, ◌∙◌}
use native.Mathlib.Omega.{arith}
use Rattle.trial.proofs.Toward.{visit_still, visit_fires}
use Rattle.trial.proofs.run.visit.Goals as goal

pub returns-then-count-eq0 : goal.returns-then-count-eq0
returns-then-count-eq0 c =
    record {
      visited = visit_still c.args.lists.now.net.now.drawn c.requires.1 c.requires.0 c.of-short.ensures c.allowance-k.ensures (omega arith);
      hints_unchanged = λ _. refl;
    }

pub returns : goal.returns
returns c =
    record {
      visited = visit_fires c.args.lists.now.net.now.drawn c.requires.1 c.requires.0 c.of-short.ensures c.allowance-k.ensures
          (λ z. c.if-count-eq0.false (c.count.ensures ∙ z))
          c.fire.ensures
          (c.count-2.ensures ∙ c.less.ensures);
      hints_unchanged = λ z. absurd (c.if-count-eq0.false (c.count.ensures ∙ z));
    }
