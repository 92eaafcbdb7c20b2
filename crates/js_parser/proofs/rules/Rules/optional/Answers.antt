use Rattle.std.proofs.Common.{sym, ◌∙◌}
use Rattle.std.proofs.lemmas.Result.{err_from_is_err_and}
use Rattle.js_parser.specs.Reads.{goes_on, is_stuck}
use Rattle.js_parser.proofs.Runs.{onwards}
use Rattle.js_parser.proofs.Steps.{after, came, handed}
use Rattle.js_parser.proofs.DeclaratorSteps.{at_none_left, at_absent, at_present}
use Rattle.js_parser.proofs.rules.Rules.optional.Goals as goal

pub returns-then-not-at_any-clause-reads : goal.returns-then-not-at_any-clause-reads
returns-then-not-at_any-clause-reads g c next = is_stuck (at_none_left _ next _ (sym c.at_any.ensures.is ∙ c.if-not-at_any.true))

pub returns-then-ends_optional-clause-reads : goal.returns-then-ends_optional-clause-reads
returns-then-ends_optional-clause-reads g c next = goes_on (at_absent _ next _ (sym c.ends_optional.ensures.is ∙ c.if-ends_optional.true))

pub returns-in_err-value-clause-reads : goal.returns-in_err-value-clause-reads
returns-in_err-value-clause-reads g c next = handed (err_from_is_err_and _ c.from_residual.ensures.1) (after (at_present _ next _ (sym c.at_any.ensures.is ∙ c.if-not-at_any.false) (sym c.ends_optional.ensures.is ∙ c.if-ends_optional.false)) (c.in_err-value.ensures.reads _))

pub returns-clause-reads : goal.returns-clause-reads
returns-clause-reads g c next = goes_on (onwards (at_present _ next _ (sym c.at_any.ensures.is ∙ c.if-not-at_any.false) (sym c.ends_optional.ensures.is ∙ c.if-ends_optional.false)) (came (c.in_ok-value.ensures.reads _)))
