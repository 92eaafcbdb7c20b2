use Rattle.std.proofs.Common.{sym, ◌∙◌}
use Rattle.std.proofs.lemmas.Result.{err_from_is_err_and}
use Rattle.js_parser.specs.Machine as rule
use Rattle.js_parser.specs.View as view
use Rattle.js_parser.proofs.Runs.{onwards}
use Rattle.js_parser.proofs.Steps.{after, came, handed}
use Rattle.js_parser.proofs.OperandSteps.{at-new, no-new}
use Rattle.js_parser.proofs.rules.Rules.operand.Goals as goal

pub returns-then-at_new-clause-reads : goal.returns-then-at_new-clause-reads
returns-then-at_new-clause-reads g c next = after (at-new _ _ next _ _ (sym c.at_new.ensures.is ∙ c.if-at_new.true) c.take.ensures.passed) (c.behind_new.ensures.reads next)

pub returns-in_err-operand-clause-reads : goal.returns-in_err-operand-clause-reads
returns-in_err-operand-clause-reads g c next =
    handed (err_from_is_err_and _ c.from_residual.ensures.1)
    (after (no-new _ _ next _ (sym c.at_new.ensures.is ∙ c.if-at_new.false)) (c.in_err-operand.ensures.reads (λ x r. rule.links (view.room c.args.room) c.args.with_calls x next r)))

pub returns-clause-reads : goal.returns-clause-reads
returns-clause-reads g c next =
    after (onwards (no-new _ _ next _ (sym c.at_new.ensures.is ∙ c.if-at_new.false)) (came (c.in_ok-operand.ensures.reads (λ x r. rule.links (view.room c.args.room) c.args.with_calls x next r)))) (c.links.ensures.reads next)
