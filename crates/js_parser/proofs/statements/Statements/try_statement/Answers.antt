use Rattle.std.proofs.Common.{sym, ◌∙◌}
use Rattle.std.proofs.lemmas.Result.{err_from_is_err_and}
use Rattle.js_parser.specs.View as view
use Rattle.js_parser.specs.Contexts as contexts
use Rattle.js_parser.specs.Machine as rule
use Rattle.js_parser.specs.Machine.{here}
use Rattle.js_parser.proofs.Runs.{fitted}
use Rattle.js_parser.proofs.Steps.{after, came, handed, no_room}
use Rattle.js_parser.proofs.statements.Statements.try_statement.Goals as goal

pub returns-then-not-fits_node-clause-reads : goal.returns-then-not-fits_node-clause-reads
returns-then-not-fits_node-clause-reads g c next = no_room _ (sym c.fits_node.ensures ∙ c.if-not-fits_node.true)

pub returns-in_err-tried-clause-reads : goal.returns-in_err-tried-clause-reads
returns-in_err-tried-clause-reads g c next = handed (err_from_is_err_and _ c.from_residual.ensures.1) (after (fitted _ (sym c.fits_node.ensures ∙ c.if-not-fits_node.false) here) (c.in_err-tried.ensures.reads (λ tried r. rule.after_try c.args.self.now.rules.form (view.room c.args.room) (contexts.part (view.context c.args.context.now)) tried next r)))

pub returns-clause-reads : goal.returns-clause-reads
returns-clause-reads g c next = after (fitted _ (sym c.fits_node.ensures ∙ c.if-not-fits_node.false) (came (c.in_ok-tried.ensures.reads (λ tried r. rule.after_try c.args.self.now.rules.form (view.room c.args.room) (contexts.part (view.context c.args.context.now)) tried next r)))) (c.after_try.ensures.reads next)
