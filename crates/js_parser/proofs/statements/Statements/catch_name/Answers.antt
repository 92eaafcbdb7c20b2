use Rattle.std.proofs.lemmas.Result.{err_from_is_err_and}
use Rattle.js_parser.specs.Reads.{goes_on}
use Rattle.js_parser.proofs.Runs.{onwards}
use Rattle.js_parser.proofs.Steps.{after, came, handed}
use Rattle.js_parser.proofs.statements.Statements.catch_name.Goals as goal

pub returns-in_err-name-clause-reads : goal.returns-in_err-name-clause-reads
returns-in_err-name-clause-reads g c next = handed (err_from_is_err_and _ c.from_residual.ensures.1) (c.in_err-name.ensures.reads _)

pub returns-in_err-close_parenthesis-clause-reads : goal.returns-in_err-close_parenthesis-clause-reads
returns-in_err-close_parenthesis-clause-reads g c next = handed (err_from_is_err_and _ c.from_residual-in_err-close_parenthesis.ensures.1) (after (came (c.in_ok-name.ensures.reads _)) (c.in_err-close_parenthesis.ensures.reads _ _))

pub returns-clause-reads : goal.returns-clause-reads
returns-clause-reads g c next = goes_on (onwards (came (c.in_ok-name.ensures.reads _)) (came (c.in_ok-close_parenthesis.ensures.reads _ _)))
