use Rattle.std.proofs.Common.{sym, ◌∙◌}
use Rattle.std.proofs.lemmas.Result.{err_from_is_err_and}
use Rattle.js_tree.specs.Plain.{expr, stmt}
use Rattle.js_tree.specs.Tree as tree
use Rattle.js_parser.specs.View as view
use Rattle.js_parser.proofs.Runs.{onwards}
use Rattle.js_parser.proofs.Steps.{after, came, handed, made}
use Rattle.js_parser.proofs.StatementSteps.{at_an_else, at_no_else}
use Rattle.js_parser.proofs.statements.Statements.after_if.Goals as goal

pub returns-then-not-at_else-clause-reads : goal.returns-then-not-at_else-clause-reads
returns-then-not-at_else-clause-reads g c next = made stmt next _ _ _ c.if_then.ensures (at_no_else (view.room c.args.room) (view.context c.args.context.now) (expr c.args.test) (stmt c.args.then) next _ (sym c.at_else.ensures.is ∙ c.if-not-at_else.true))

pub returns-in_err-other-clause-reads : goal.returns-in_err-other-clause-reads
returns-in_err-other-clause-reads g c next = handed (err_from_is_err_and _ c.from_residual.ensures.1) (after (at_an_else (view.room c.args.room) (view.context c.args.context.now) (expr c.args.test) (stmt c.args.then) next _ _ (sym c.at_else.ensures.is ∙ c.if-not-at_else.false) c.take.ensures.passed) (c.in_err-other.ensures.reads (λ other r. next (tree.If (expr c.args.test) (stmt c.args.then) (tree.AStmt other)) r)))

pub returns-clause-reads : goal.returns-clause-reads
returns-clause-reads g c next = made stmt next _ _ _ c.if_else.ensures (onwards (at_an_else (view.room c.args.room) (view.context c.args.context.now) (expr c.args.test) (stmt c.args.then) next _ _ (sym c.at_else.ensures.is ∙ c.if-not-at_else.false) c.take.ensures.passed) (came (c.in_ok-other.ensures.reads (λ other r. next (tree.If (expr c.args.test) (stmt c.args.then) (tree.AStmt other)) r))))
