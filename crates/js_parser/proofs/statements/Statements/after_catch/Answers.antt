use Rattle.std.proofs.Common.{sym, ◌∙◌}
use Rattle.std.proofs.lemmas.Result.{err_from_is_err_and}
use Rattle.js_tree.specs.Plain.{stmt}
use Rattle.js_tree.specs.Tree as tree
use Rattle.js_parser.specs.View as view
use Rattle.js_parser.specs.Contexts as contexts
use Rattle.js_parser.proofs.Runs.{onwards}
use Rattle.js_parser.proofs.Steps.{after, came, handed, made}
use Rattle.js_parser.proofs.KindSteps.{with_finally, with_no_finally}
use Rattle.js_parser.proofs.statements.Statements.after_catch.Goals as goal

pub returns-then-not-at_finally-clause-reads : goal.returns-then-not-at_finally-clause-reads
returns-then-not-at_finally-clause-reads g c next = made stmt next _ _ _ c.try_catch.ensures (with_no_finally (view.room c.args.room) (contexts.part (view.context c.args.context.now)) (stmt c.args.tried) (tree.ACatch c.args.name (stmt c.args.handler)) next _ (sym c.at_finally.ensures.is ∙ c.if-not-at_finally.true))

pub returns-in_err-last-clause-reads : goal.returns-in_err-last-clause-reads
returns-in_err-last-clause-reads g c next = handed (err_from_is_err_and _ c.from_residual.ensures.1) (after (with_finally (view.room c.args.room) (contexts.part (view.context c.args.context.now)) (stmt c.args.tried) (tree.ACatch c.args.name (stmt c.args.handler)) next _ _ (sym c.at_finally.ensures.is ∙ c.if-not-at_finally.false) c.take.ensures.passed) (c.in_err-last.ensures.reads (λ last r. next (tree.Try (stmt c.args.tried) (tree.ACatch c.args.name (stmt c.args.handler)) (tree.AStmt last)) r)))

pub returns-clause-reads : goal.returns-clause-reads
returns-clause-reads g c next = made stmt next _ _ _ c.try_both.ensures (onwards (with_finally (view.room c.args.room) (contexts.part (view.context c.args.context.now)) (stmt c.args.tried) (tree.ACatch c.args.name (stmt c.args.handler)) next _ _ (sym c.at_finally.ensures.is ∙ c.if-not-at_finally.false) c.take.ensures.passed) (came (c.in_ok-last.ensures.reads (λ last r. next (tree.Try (stmt c.args.tried) (tree.ACatch c.args.name (stmt c.args.handler)) (tree.AStmt last)) r))))
