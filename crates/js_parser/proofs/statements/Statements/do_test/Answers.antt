use Rattle.std.proofs.lemmas.Result.{err_from_is_err_and}
use Rattle.js_tree.specs.Plain.{expr}
use Rattle.js_parser.specs.Reads.{goes_on}
use Rattle.js_parser.proofs.Runs.{onwards}
use Rattle.js_parser.proofs.Steps.{after, came, handed}
use Rattle.js_parser.proofs.statements.Statements.do_test.Goals as goal

pub returns-in_err-while_word-clause-reads : goal.returns-in_err-while_word-clause-reads
returns-in_err-while_word-clause-reads g c next = handed (err_from_is_err_and _ c.from_residual.ensures.1) (c.in_err-while_word.ensures.reads _ _)

pub returns-in_err-test-clause-reads : goal.returns-in_err-test-clause-reads
returns-in_err-test-clause-reads g c next = handed (err_from_is_err_and _ c.from_residual-in_err-test.ensures.1) (after (came (c.in_ok-while_word.ensures.reads _ _)) (c.in_err-test.ensures.reads _))

pub returns-in_err-ended-clause-reads : goal.returns-in_err-ended-clause-reads
returns-in_err-ended-clause-reads g c next = handed (err_from_is_err_and _ c.from_residual-in_err-ended.ensures.1) (after (onwards (came (c.in_ok-while_word.ensures.reads _ _)) (came (c.in_ok-test.ensures.reads _))) (c.in_err-ended.ensures.reads _ (next (expr c.in_ok-test.test))))

pub returns-clause-reads : goal.returns-clause-reads
returns-clause-reads g c next = goes_on (onwards (came (c.in_ok-while_word.ensures.reads _ _)) (onwards (came (c.in_ok-test.ensures.reads _)) (came (c.in_ok-ended.ensures.reads _ (next (expr c.in_ok-test.test))))))
