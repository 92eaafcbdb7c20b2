use Rattle.std.proofs.lemmas.Result.{err_from_is_err_and}
use Rattle.js_parser.proofs.Steps.{after, came, handed}
use Rattle.js_parser.proofs.statements.Statements.for_first.Goals as goal

pub returns-in_err-first-clause-reads : goal.returns-in_err-first-clause-reads
returns-in_err-first-clause-reads g c next = handed (err_from_is_err_and _ c.from_residual.ensures.1) (c.in_err-first.ensures.reads _)

pub returns-clause-reads : goal.returns-clause-reads
returns-clause-reads g c next = after (came (c.in_ok-first.ensures.reads _)) (c.behind_first.ensures.reads next)
