use Rattle.std.proofs.Common.{sym, ◌∙◌, ap}
use Rattle.std.proofs.lemmas.Result.{err_from_is_err_and}
use Rattle.js_tree.specs.Plain.{stmt}
use Rattle.std.proofs.Common.{not}
use Rattle.js_tree.specs.Tree as tree
use Rattle.js_parser.specs.View as view
use Rattle.js_parser.specs.Contexts as contexts
use Rattle.js_parser.specs.Machine as rule
use Rattle.js_parser.specs.Rooms as rooms
use Rattle.js_parser.proofs.Runs.{onwards}
use Rattle.js_parser.proofs.Steps.{after, came, handed, made, barred}
use Rattle.js_parser.proofs.StatementSteps.{allowed_in, allowed_not_in}
use Rattle.js_parser.proofs.statements.Statements.behind_label.Goals as goal

pub returns-then-has_label-clause-reads : goal.returns-then-has_label-clause-reads
returns-then-has_label-clause-reads g c next = barred _ (ap not (sym c.has_label.ensures ∙ c.if-has_label.true))

pub returns-then-not-fits_node-clause-reads : goal.returns-then-not-fits_node-clause-reads
returns-then-not-fits_node-clause-reads g c next = allowed_not_in _ _ _ (ap not (sym c.has_label.ensures ∙ c.if-has_label.false)) (sym c.fits_node.ensures ∙ c.if-not-fits_node.true) c.take.ensures.passed

pub returns-in_err-body-clause-reads : goal.returns-in_err-body-clause-reads
returns-in_err-body-clause-reads g c next = handed (err_from_is_err_and _ c.from_residual.ensures.1) (after (allowed_in (λ r. rule.statement (rooms.inside (view.room c.args.room)) (contexts.labelled c.args.name.now (view.context c.args.context.now)) (λ body o. next (tree.Label c.args.name.now body) o) r) _ _ (ap not (sym c.has_label.ensures ∙ c.if-has_label.false)) (sym c.fits_node.ensures ∙ c.if-not-fits_node.false) c.take.ensures.passed) (c.in_err-body.ensures.reads (λ body o. next (tree.Label c.args.name.now body) o)))

pub returns-clause-reads : goal.returns-clause-reads
returns-clause-reads g c next = made stmt next _ _ _ c.labelled.ensures (onwards (allowed_in (λ r. rule.statement (rooms.inside (view.room c.args.room)) (contexts.labelled c.args.name.now (view.context c.args.context.now)) (λ body o. next (tree.Label c.args.name.now body) o) r) _ _ (ap not (sym c.has_label.ensures ∙ c.if-has_label.false)) (sym c.fits_node.ensures ∙ c.if-not-fits_node.false) c.take.ensures.passed) (came (c.in_ok-body.ensures.reads (λ body o. next (tree.Label c.args.name.now body) o))))
