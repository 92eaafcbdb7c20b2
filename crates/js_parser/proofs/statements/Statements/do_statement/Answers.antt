use Rattle.std.proofs.Common.{sym, ◌∙◌}
use Rattle.std.proofs.lemmas.Result.{err_from_is_err_and}
use Rattle.js_tree.specs.Plain.{stmt}
use Rattle.js_tree.specs.Tree as tree
use Rattle.js_parser.specs.Machine.{here}
use Rattle.js_parser.proofs.Runs.{onwards, fitted}
use Rattle.js_parser.proofs.Steps.{after, came, handed, made, no_room}
use Rattle.js_parser.proofs.statements.Statements.do_statement.Goals as goal

pub returns-then-not-fits_node-clause-reads : goal.returns-then-not-fits_node-clause-reads
returns-then-not-fits_node-clause-reads g c next = no_room _ (sym c.fits_node.ensures ∙ c.if-not-fits_node.true)

pub returns-in_err-body-clause-reads : goal.returns-in_err-body-clause-reads
returns-in_err-body-clause-reads g c next = handed (err_from_is_err_and _ c.from_residual.ensures.1) (after (fitted _ (sym c.fits_node.ensures ∙ c.if-not-fits_node.false) here) (c.in_err-body.ensures.reads _))

pub returns-in_err-test-clause-reads : goal.returns-in_err-test-clause-reads
returns-in_err-test-clause-reads g c next = handed (err_from_is_err_and _ c.from_residual-in_err-test.ensures.1) (after (fitted _ (sym c.fits_node.ensures ∙ c.if-not-fits_node.false) (came (c.in_ok-body.ensures.reads _))) (c.in_err-test.ensures.reads (λ x. next (tree.DoWhile (stmt c.in_ok-body.body) x))))

pub returns-clause-reads : goal.returns-clause-reads
returns-clause-reads g c next = made stmt next _ _ _ c.do_while.ensures (fitted _ (sym c.fits_node.ensures ∙ c.if-not-fits_node.false) (onwards (came (c.in_ok-body.ensures.reads _)) (came (c.in_ok-test.ensures.reads (λ x. next (tree.DoWhile (stmt c.in_ok-body.body) x))))))
