use Rattle.std.proofs.lemmas.Result.{err_from_is_err_and}
use Rattle.std.proofs.Common.{None}
use Rattle.js_parser.specs.Machine.{here}
use Rattle.js_parser.specs.Reads.{goes_on}
use Rattle.js_parser.proofs.Runs.{onwards, allowed}
use Rattle.js_parser.proofs.Steps.{after, came, handed, barred}
use Rattle.js_parser.proofs.statements.Statements.no_label.Goals as goal

pub returns-then-not-may-clause-reads : goal.returns-then-not-may-clause-reads
returns-then-not-may-clause-reads g c next = barred _ c.if-not-may.true

pub returns-in_err-ended_at_once-clause-reads : goal.returns-in_err-ended_at_once-clause-reads
returns-in_err-ended_at_once-clause-reads g c next = handed (err_from_is_err_and _ c.from_residual.ensures.1) (after (allowed _ c.if-not-may.false here) (c.in_err-ended_at_once.ensures.reads _ (next None)))

pub returns-clause-reads : goal.returns-clause-reads
returns-clause-reads g c next = goes_on (onwards (allowed _ c.if-not-may.false here) (came (c.in_ok-ended_at_once.ensures.reads _ (next None))))
