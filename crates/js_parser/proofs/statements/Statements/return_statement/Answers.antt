use Rattle.std.proofs.Common.{sym, ◌∙◌}
use Rattle.js_parser.specs.View as view
use Rattle.js_parser.specs.Machine.{returned}
use Rattle.js_parser.proofs.Steps.{after, barred}
use Rattle.js_parser.proofs.StatementSteps.{allowed_in, allowed_not_in}
use Rattle.js_parser.proofs.statements.Statements.return_statement.Goals as goal

pub returns-then-not-context-clause-reads : goal.returns-then-not-context-clause-reads
returns-then-not-context-clause-reads g c next = barred _ c.if-not-context.true

pub returns-then-not-fits_node-clause-reads : goal.returns-then-not-fits_node-clause-reads
returns-then-not-fits_node-clause-reads g c next = allowed_not_in _ _ _ c.if-not-context.false (sym c.fits_node.ensures ∙ c.if-not-fits_node.true) c.take.ensures.passed

pub returns-clause-reads : goal.returns-clause-reads
returns-clause-reads g c next = after (allowed_in (λ r. returned (view.room c.args.room) next r) _ _ c.if-not-context.false (sym c.fits_node.ensures ∙ c.if-not-fits_node.false) c.take.ensures.passed) (c.returned.ensures.reads next)
