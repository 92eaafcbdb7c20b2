use Rattle.std.proofs.Common.{sym, ◌∙◌}
use Rattle.js_parser.specs.Reads.{goes_on, is_stuck}
use Rattle.js_parser.proofs.StatementSteps.{at_its_end, at_an_end, at_no_end}
use Rattle.js_parser.proofs.tokens.Tokens.ended.Goals as goal

pub returns-then-at_semicolon-clause-reads : goal.returns-then-at_semicolon-clause-reads
returns-then-at_semicolon-clause-reads c form next = goes_on (at_its_end next _ _ (sym c.at_semicolon.ensures.is ∙ c.if-at_semicolon.true) c.take.ensures.passed)

pub returns-then-not-may_end-clause-reads : goal.returns-then-not-may_end-clause-reads
returns-then-not-may_end-clause-reads c form next = is_stuck (at_no_end next _ (sym c.at_semicolon.ensures.is ∙ c.if-at_semicolon.false) (sym c.may_end.ensures ∙ c.if-not-may_end.true))

pub returns-clause-reads : goal.returns-clause-reads
returns-clause-reads c form next = goes_on (at_an_end next _ (sym c.at_semicolon.ensures.is ∙ c.if-at_semicolon.false) (sym c.may_end.ensures ∙ c.if-not-may_end.false))
