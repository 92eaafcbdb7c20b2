use Rattle.std.proofs.lemmas.Result.{err_from_is_err_and}
use Rattle.js_parser.specs.Reads.{goes_on}
use Rattle.js_parser.proofs.Runs.{onwards}
use Rattle.js_parser.proofs.Steps.{after, came, handed}
use Rattle.js_parser.proofs.statements.Statements.iteration.Goals as goal

pub returns-in_err-object-clause-reads : goal.returns-in_err-object-clause-reads
returns-in_err-object-clause-reads g c next = handed (err_from_is_err_and _ c.from_residual.ensures.1) (c.in_err-object.ensures.reads _)

pub returns-in_err-close_parenthesis-clause-reads : goal.returns-in_err-close_parenthesis-clause-reads
returns-in_err-close_parenthesis-clause-reads g c next = handed (err_from_is_err_and _ c.from_residual-in_err-close_parenthesis.ensures.1) (after (came (c.in_ok-object.ensures.reads _)) (c.in_err-close_parenthesis.ensures.reads _ _))

pub returns-in_err-body-clause-reads : goal.returns-in_err-body-clause-reads
returns-in_err-body-clause-reads g c next = handed (err_from_is_err_and _ c.from_residual-in_err-body.ensures.1) (after (onwards (came (c.in_ok-object.ensures.reads _)) (came (c.in_ok-close_parenthesis.ensures.reads _ _))) (c.in_err-body.ensures.reads _))

pub returns-clause-reads : goal.returns-clause-reads
returns-clause-reads g c next = goes_on (onwards (came (c.in_ok-object.ensures.reads _)) (onwards (came (c.in_ok-close_parenthesis.ensures.reads _ _)) (came (c.in_ok-body.ensures.reads _))))
