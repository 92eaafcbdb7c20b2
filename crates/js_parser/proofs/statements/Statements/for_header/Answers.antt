use Rattle.std.proofs.Common.{sym, ◌∙◌}
use Rattle.std.proofs.lemmas.Result.{err_from_is_err_and}
use Rattle.js_tree.specs.Plain.{stmt}
use Rattle.js_tree.specs.Tree as tree
use Rattle.js_parser.specs.View as view
use Rattle.js_parser.specs.StatementKinds as kinds
use Rattle.js_parser.specs.Reads.{is_stuck}
use Rattle.js_parser.proofs.Runs.{onwards}
use Rattle.js_parser.proofs.Steps.{after, came, handed, made}
use Rattle.js_parser.proofs.LoopSteps.{no_header, header_of_variables, header_of_nothing, header_of_first}
use Rattle.js_parser.proofs.statements.Statements.for_header.Goals as goal

pub returns-then-are_over-clause-reads : goal.returns-then-are_over-clause-reads
returns-then-are_over-clause-reads g c next = is_stuck (no_header (view.room c.args.room) (view.context c.args.context.now) next _ (sym c.are_over.ensures ∙ c.if-are_over.true))

pub returns-then-at_var-clause-reads : goal.returns-then-at_var-clause-reads
returns-then-at_var-clause-reads g c next = after (header_of_variables (view.room c.args.room) (view.context c.args.context.now) next _ _ (sym c.at_var.ensures.is ∙ c.if-at_var.true) c.take.ensures.passed) (c.for_variables.ensures.reads next)

pub returns-then-not-at_semicolon-clause-reads : goal.returns-then-not-at_semicolon-clause-reads
returns-then-not-at_semicolon-clause-reads g c next = after (header_of_first (view.room c.args.room) (view.context c.args.context.now) next _ (sym c.are_over.ensures ∙ c.if-are_over.false) (sym c.at_var.ensures.is ∙ c.if-at_var.false) (sym c.at_semicolon.ensures.is ∙ c.if-not-at_semicolon.true)) (c.for_first.ensures.reads next)

pub returns-in_err-rest-clause-reads : goal.returns-in_err-rest-clause-reads
returns-in_err-rest-clause-reads g c next = handed (err_from_is_err_and _ c.from_residual.ensures.1) (after (header_of_nothing (view.room c.args.room) (view.context c.args.context.now) next _ (sym c.at_semicolon.ensures.is ∙ c.if-not-at_semicolon.false)) (c.in_err-rest.ensures.reads (λ rest r. next (kinds.loop_of tree.Nothing rest) r)))

pub returns-clause-reads : goal.returns-clause-reads
returns-clause-reads g c next = made stmt next _ _ _ c.for_nothing.ensures (onwards (header_of_nothing (view.room c.args.room) (view.context c.args.context.now) next _ (sym c.at_semicolon.ensures.is ∙ c.if-not-at_semicolon.false)) (came (c.in_ok-rest.ensures.reads (λ rest r. next (kinds.loop_of tree.Nothing rest) r))))
