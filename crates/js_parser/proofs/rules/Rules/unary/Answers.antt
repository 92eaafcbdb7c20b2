use Rattle.std.proofs.Common.{refl, sym, ◌∙◌}
use Rattle.std.proofs.lemmas.Result.{err_from_is_err_and}
use Rattle.js_parser.specs.Reads.{is_stuck}
use Rattle.js_parser.specs.Machine.{postfix}
use Rattle.js_parser.specs.View as view
use Rattle.js_parser.proofs.Runs.{onwards}
use Rattle.js_parser.proofs.Steps.{after, came, handed}
use Rattle.js_parser.proofs.OperationSteps.{at_nothing, at_a_change, at_a_prefix, at_no_prefix}
use Rattle.js_parser.proofs.rules.Rules.unary.Goals as goal

pub returns-then-is_empty-clause-reads : goal.returns-then-is_empty-clause-reads
returns-then-is_empty-clause-reads g c next = is_stuck (at_nothing _ next _ (c.if-is_empty.ensures.none refl))

pub returns-in_err-operand-clause-reads : goal.returns-in_err-operand-clause-reads
returns-in_err-operand-clause-reads g c next =
    handed (err_from_is_err_and _ c.from_residual.ensures.1)
    (after (at_no_prefix _ next _ (c.if-is_empty.ensures.some refl) (sym c.prefix_operator.ensures.is ∙ c.in_default.is)) (c.in_err-operand.ensures.reads (λ x r. postfix (view.room c.args.room) x next r)))

pub returns-in_default-clause-reads : goal.returns-in_default-clause-reads
returns-in_default-clause-reads g c next =
    after (onwards (at_no_prefix _ next _ (c.if-is_empty.ensures.some refl) (sym c.prefix_operator.ensures.is ∙ c.in_default.is)) (came (c.in_ok-operand.ensures.reads (λ x r. postfix (view.room c.args.room) x next r)))) (c.postfix.ensures.reads next)

pub returns-then-changes-clause-reads : goal.returns-then-changes-clause-reads
returns-then-changes-clause-reads g c next = after (at_a_change _ next _ _ _ (sym c.prefix_operator.ensures.is ∙ c.in-Some.is) (sym c.changes.ensures ∙ c.if-changes.true) c.take.ensures.passed) (c.changed.ensures.reads next)

pub returns-else-changes-clause-reads : goal.returns-else-changes-clause-reads
returns-else-changes-clause-reads g c next = after (at_a_prefix _ next _ _ _ (sym c.prefix_operator.ensures.is ∙ c.in-Some.is) (sym c.changes.ensures ∙ c.if-changes.false) c.take.ensures.passed) (c.prefixed.ensures.reads next)
