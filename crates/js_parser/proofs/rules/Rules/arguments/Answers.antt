use Rattle.std.proofs.Common.{sym, ◌∙◌, subst}
use Rattle.js_parser.specs.ExpressionLists as lists
use Rattle.js_parser.specs.Machine as rule
use Rattle.js_parser.specs.Reads.{goes_on, is_stuck}
use Rattle.js_parser.specs.Rooms.{inside}
use Rattle.js_parser.specs.View as view
use Rattle.js_parser.proofs.Steps.{after}
use Rattle.js_parser.proofs.ExpressionListSteps.{arguments-over, no-arguments, some-arguments}
use Rattle.js_parser.proofs.rules.Rules.arguments.Goals as goal

pub returns-then-are_over-clause-reads : goal.returns-then-are_over-clause-reads
returns-then-are_over-clause-reads g c next = is_stuck (arguments-over _ next _ (sym c.are_over.ensures ∙ c.if-are_over.true))

pub returns-then-at_close_parenthesis-clause-reads : goal.returns-then-at_close_parenthesis-clause-reads
returns-then-at_close_parenthesis-clause-reads g c next =
    goes_on (subst (λ es. rule.Goes c.args.self.now.form (rule.arguments (inside (view.room c.args.room)) next c.args.tokens.now) (next (lists.exprs es) c.args.tokens.now)) (sym c.new.ensures)
    (no-arguments _ next _ (sym c.at_close_parenthesis.ensures.is ∙ c.if-at_close_parenthesis.true)))

pub returns-clause-reads : goal.returns-clause-reads
returns-clause-reads g c next = after (some-arguments _ next _ (sym c.are_over.ensures ∙ c.if-are_over.false) (sym c.at_close_parenthesis.ensures.is ∙ c.if-at_close_parenthesis.false)) (c.argument_list.ensures.reads next)
