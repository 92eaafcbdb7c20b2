use Rattle.std.proofs.lemmas.Result.{err_from_is_err_and}
use Rattle.js_parser.specs.Reads.{goes_on}
use Rattle.js_parser.proofs.Runs.{onwards}
use Rattle.js_parser.proofs.Steps.{after, came, handed}
use Rattle.js_parser.proofs.ClauseSteps.{with_test, without_test}
use Rattle.js_parser.proofs.rules.Rules.clause_test.Goals as goal

pub returns-then-not-tested-clause-reads : goal.returns-then-not-tested-clause-reads
returns-then-not-tested-clause-reads g c next = goes_on (without_test _ _ next _ c.if-not-tested.true)

pub returns-in_err-test-clause-reads : goal.returns-in_err-test-clause-reads
returns-in_err-test-clause-reads g c next = handed (err_from_is_err_and _ c.from_residual.ensures.1) (after (with_test _ _ next _ c.if-not-tested.false) (c.in_err-test.ensures.reads _))

pub returns-clause-reads : goal.returns-clause-reads
returns-clause-reads g c next = goes_on (onwards (with_test _ _ next _ c.if-not-tested.false) (came (c.in_ok-test.ensures.reads _)))
