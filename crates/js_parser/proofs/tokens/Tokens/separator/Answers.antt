use Rattle.std.proofs.Common.{sym, ◌∙◌}
use Rattle.js_parser.specs.Reads.{goes_on, is_stuck}
use Rattle.js_parser.proofs.ExpressionListSteps.{separator-over, at-separator, no-separator}
use Rattle.js_parser.proofs.tokens.Tokens.separator.Goals as goal

pub returns-then-are_over-clause-reads : goal.returns-then-are_over-clause-reads
returns-then-are_over-clause-reads c form next = is_stuck (separator-over next _ (sym c.are_over.ensures ∙ c.if-are_over.true))

pub returns-then-not-at_comma-clause-reads : goal.returns-then-not-at_comma-clause-reads
returns-then-not-at_comma-clause-reads c form next = goes_on (no-separator next _ (sym c.are_over.ensures ∙ c.if-are_over.false) (sym c.at_comma.ensures.is ∙ c.if-not-at_comma.true))

pub returns-clause-reads : goal.returns-clause-reads
returns-clause-reads c form next = goes_on (at-separator next _ _ (sym c.at_comma.ensures.is ∙ c.if-not-at_comma.false) c.take.ensures.passed)
