use Rattle.std.proofs.lemmas.Result.{err_from_is_err_and}
use Rattle.js_tree.specs.Plain.{expr, stmt}
use Rattle.js_tree.specs.Tree as tree
use Rattle.js_parser.proofs.Runs.{onwards}
use Rattle.js_parser.proofs.Steps.{after, came, handed, made}
use Rattle.js_parser.proofs.statements.Statements.stated.Goals as goal

pub returns-in_err-value-clause-reads : goal.returns-in_err-value-clause-reads
returns-in_err-value-clause-reads g c next = handed (err_from_is_err_and _ c.from_residual.ensures.1) (c.in_err-value.ensures.reads _)

pub returns-in_err-ended-clause-reads : goal.returns-in_err-ended-clause-reads
returns-in_err-ended-clause-reads g c next = handed (err_from_is_err_and _ c.from_residual-in_err-ended.ensures.1) (after (came (c.in_ok-value.ensures.reads _)) (c.in_err-ended.ensures.reads _ (next (tree.Do (expr c.in_ok-value.value)))))

pub returns-clause-reads : goal.returns-clause-reads
returns-clause-reads g c next = made stmt next _ _ _ c.stated.ensures (onwards (came (c.in_ok-value.ensures.reads _)) (came (c.in_ok-ended.ensures.reads _ (next (tree.Do (expr c.in_ok-value.value))))))
