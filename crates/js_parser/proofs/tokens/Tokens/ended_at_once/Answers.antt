use Rattle.std.proofs.Common.{sym, ◌∙◌}
use Rattle.js_parser.specs.Reads.{goes_on, is_stuck}
use Rattle.js_parser.proofs.StatementSteps.{at_its_end_at_once, at_an_end_at_once, at_no_end_at_once}
use Rattle.js_parser.proofs.tokens.Tokens.ended_at_once.Goals as goal

pub returns-then-at_semicolon_on_line-clause-reads : goal.returns-then-at_semicolon_on_line-clause-reads
returns-then-at_semicolon_on_line-clause-reads c form next = goes_on (at_its_end_at_once next _ _ (sym c.at_semicolon_on_line.ensures ∙ c.if-at_semicolon_on_line.true) c.take.ensures.passed)

pub returns-then-not-may_end-clause-reads : goal.returns-then-not-may_end-clause-reads
returns-then-not-may_end-clause-reads c form next = is_stuck (at_no_end_at_once next _ (sym c.at_semicolon_on_line.ensures ∙ c.if-at_semicolon_on_line.false) (sym c.may_end.ensures ∙ c.if-not-may_end.true))

pub returns-clause-reads : goal.returns-clause-reads
returns-clause-reads c form next = goes_on (at_an_end_at_once next _ (sym c.at_semicolon_on_line.ensures ∙ c.if-at_semicolon_on_line.false) (sym c.may_end.ensures ∙ c.if-not-may_end.false))
