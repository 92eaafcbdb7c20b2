use Rattle.std.proofs.lemmas.Result.{err_from_is_err_and}
use Rattle.js_parser.proofs.Runs.{onwards}
use Rattle.js_parser.proofs.Steps.{after, came, handed}
use Rattle.js_parser.proofs.statements.Statements.for_parts.Goals as goal

pub returns-in_err-semicolon-clause-reads : goal.returns-in_err-semicolon-clause-reads
returns-in_err-semicolon-clause-reads g c next = handed (err_from_is_err_and _ c.from_residual.ensures.1) (c.in_err-semicolon.ensures.reads _ _)

pub returns-in_err-test-clause-reads : goal.returns-in_err-test-clause-reads
returns-in_err-test-clause-reads g c next = handed (err_from_is_err_and _ c.from_residual-in_err-test.ensures.1) (after (came (c.in_ok-semicolon.ensures.reads _ _)) (c.in_err-test.ensures.reads _))

pub returns-clause-reads : goal.returns-clause-reads
returns-clause-reads g c next = after (onwards (came (c.in_ok-semicolon.ensures.reads _ _)) (came (c.in_ok-test.ensures.reads _))) (c.for_step.ensures.reads next)
