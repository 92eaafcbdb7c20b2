use Rattle.std.proofs.Common.{sym, ◌∙◌}
use Rattle.std.proofs.lemmas.Result.{err_from_is_err_and}
use Rattle.js_tree.specs.Plain.{stmt}
use Rattle.js_tree.specs.Tree as tree
use Rattle.js_parser.specs.Machine.{jump}
use Rattle.js_parser.proofs.Runs.{onwards}
use Rattle.js_parser.proofs.Steps.{after, came, handed, made, barred}
use Rattle.js_parser.proofs.StatementSteps.{allowed_in, allowed_not_in}
use Rattle.js_parser.proofs.JumpSteps.{jumps}
use Rattle.js_parser.proofs.statements.Statements.continue_statement.Goals as goal

pub returns-then-not-allows_continue-clause-reads : goal.returns-then-not-allows_continue-clause-reads
returns-then-not-allows_continue-clause-reads g c next = barred _ (sym c.allows_continue.ensures ∙ c.if-not-allows_continue.true)

pub returns-then-not-fits_node-clause-reads : goal.returns-then-not-fits_node-clause-reads
returns-then-not-fits_node-clause-reads g c next = allowed_not_in _ _ _ (sym c.allows_continue.ensures ∙ c.if-not-allows_continue.false) (sym c.fits_node.ensures ∙ c.if-not-fits_node.true) c.take.ensures.passed

pub returns-in_err-label-clause-reads : goal.returns-in_err-label-clause-reads
returns-in_err-label-clause-reads g c next = handed (err_from_is_err_and _ c.from_residual.ensures.1) (after (onwards (allowed_in (λ r. jump c.args.self.now.rules.form c.args.context.now.in_loop c.args.context.now.loops tree.Continue next r) _ _ (sym c.allows_continue.ensures ∙ c.if-not-allows_continue.false) (sym c.fits_node.ensures ∙ c.if-not-fits_node.false) c.take.ensures.passed) (jumps c.args.context.now.in_loop c.args.context.now.loops tree.Continue next c.take.new.self)) (c.in_err-label.ensures.reads (λ label r. next (tree.Continue label) r)))

pub returns-clause-reads : goal.returns-clause-reads
returns-clause-reads g c next = made stmt next _ _ _ c.continue_to.ensures (onwards (allowed_in (λ r. jump c.args.self.now.rules.form c.args.context.now.in_loop c.args.context.now.loops tree.Continue next r) _ _ (sym c.allows_continue.ensures ∙ c.if-not-allows_continue.false) (sym c.fits_node.ensures ∙ c.if-not-fits_node.false) c.take.ensures.passed) (onwards (jumps c.args.context.now.in_loop c.args.context.now.loops tree.Continue next c.take.new.self) (came (c.in_ok-label.ensures.reads (λ label r. next (tree.Continue label) r)))))
