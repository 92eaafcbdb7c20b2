use Rattle.std.proofs.Common.{sym, ◌∙◌}
use Rattle.std.proofs.lemmas.Result.{err_from_is_err_and}
use Rattle.js_parser.specs.Reads.{goes_on}
use Rattle.js_parser.proofs.Runs.{onwards}
use Rattle.js_parser.proofs.Steps.{after, came, handed}
use Rattle.js_parser.proofs.DeclaratorSteps.{at_an_assign, at_no_assign}
use Rattle.js_parser.proofs.rules.Rules.initial_value.Goals as goal

pub returns-then-not-at_assign-clause-reads : goal.returns-then-not-at_assign-clause-reads
returns-then-not-at_assign-clause-reads g c next = goes_on (at_no_assign _ _ next _ (sym c.at_assign.ensures.is ∙ c.if-not-at_assign.true))

pub returns-in_err-value-clause-reads : goal.returns-in_err-value-clause-reads
returns-in_err-value-clause-reads g c next = handed (err_from_is_err_and _ c.from_residual.ensures.1) (after (at_an_assign _ _ next _ _ (sym c.at_assign.ensures.is ∙ c.if-not-at_assign.false) c.take.ensures.passed) (c.in_err-value.ensures.reads _))

pub returns-clause-reads : goal.returns-clause-reads
returns-clause-reads g c next = goes_on (onwards (at_an_assign _ _ next _ _ (sym c.at_assign.ensures.is ∙ c.if-not-at_assign.false) c.take.ensures.passed) (came (c.in_ok-value.ensures.reads _)))
