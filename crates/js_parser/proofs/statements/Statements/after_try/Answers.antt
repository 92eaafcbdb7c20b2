use Rattle.std.proofs.Common.{sym, ◌∙◌}
use Rattle.std.proofs.lemmas.Result.{err_from_is_err_and}
use Rattle.js_tree.specs.Plain.{stmt}
use Rattle.js_tree.specs.Tree as tree
use Rattle.js_parser.specs.View as view
use Rattle.js_parser.specs.Contexts as contexts
use Rattle.js_parser.specs.Reads.{is_stuck}
use Rattle.js_parser.proofs.Runs.{onwards}
use Rattle.js_parser.proofs.Steps.{after, came, handed, made}
use Rattle.js_parser.proofs.KindSteps.{at_a_catch, at_a_finally, at_neither}
use Rattle.js_parser.proofs.statements.Statements.after_try.Goals as goal

pub returns-then-at_catch-clause-reads : goal.returns-then-at_catch-clause-reads
returns-then-at_catch-clause-reads g c next = after (at_a_catch (view.room c.args.room) (view.context c.args.context.now) (stmt c.args.tried) next _ _ (sym c.at_catch.ensures.is ∙ c.if-at_catch.true) c.take.ensures.passed) (c.caught.ensures.reads next)

pub returns-then-not-at_finally-clause-reads : goal.returns-then-not-at_finally-clause-reads
returns-then-not-at_finally-clause-reads g c next = is_stuck (at_neither (view.room c.args.room) (contexts.part (view.context c.args.context.now)) (stmt c.args.tried) next _ (sym c.at_catch.ensures.is ∙ c.if-at_catch.false) (sym c.at_finally.ensures.is ∙ c.if-not-at_finally.true))

pub returns-in_err-last-clause-reads : goal.returns-in_err-last-clause-reads
returns-in_err-last-clause-reads g c next = handed (err_from_is_err_and _ c.from_residual.ensures.1) (after (at_a_finally (view.room c.args.room) (contexts.part (view.context c.args.context.now)) (stmt c.args.tried) next _ _ (sym c.at_finally.ensures.is ∙ c.if-not-at_finally.false) c.take-2.ensures.passed) (c.in_err-last.ensures.reads (λ last r. next (tree.Try (stmt c.args.tried) tree.NoHandler (tree.AStmt last)) r)))

pub returns-clause-reads : goal.returns-clause-reads
returns-clause-reads g c next = made stmt next _ _ _ c.try_finally.ensures (onwards (at_a_finally (view.room c.args.room) (contexts.part (view.context c.args.context.now)) (stmt c.args.tried) next _ _ (sym c.at_finally.ensures.is ∙ c.if-not-at_finally.false) c.take-2.ensures.passed) (came (c.in_ok-last.ensures.reads (λ last r. next (tree.Try (stmt c.args.tried) tree.NoHandler (tree.AStmt last)) r))))
