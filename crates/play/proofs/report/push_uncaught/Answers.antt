use Rattle.std.proofs.Common.{◌++◌, ap, sym, ◌∙◌}
use Rattle.play.proofs.TextLemmas.{uncaught_line}
use Rattle.play.proofs.report.push_uncaught.Goals as goal

pub returns : goal.returns
returns c = c.in_ok-extend.ensures.ok ∙ ap (λ l. c.args.report.now ++ l) (sym uncaught_line)
