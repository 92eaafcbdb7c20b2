use Rattle.std.proofs.Common.{sym, ◌∙◌}
use Rattle.std.proofs.lemmas.Result.{err_from_is_err_and}
use Rattle.js_parser.specs.Machine as rule
use Rattle.js_parser.specs.Machine.{here}
use Rattle.js_parser.specs.View as view
use Rattle.js_parser.proofs.Runs.{fitted}
use Rattle.js_parser.proofs.Steps.{after, came, handed, no_room}
use Rattle.js_parser.proofs.rules.Rules.behind_new.Goals as goal

pub returns-then-not-fits_node-clause-reads : goal.returns-then-not-fits_node-clause-reads
returns-then-not-fits_node-clause-reads g c next = no_room _ (sym c.fits_node.ensures ∙ c.if-not-fits_node.true)

pub returns-in_err-callee-clause-reads : goal.returns-in_err-callee-clause-reads
returns-in_err-callee-clause-reads g c next = handed (err_from_is_err_and _ c.from_residual.ensures.1) (after (fitted _ (sym c.fits_node.ensures ∙ c.if-not-fits_node.false) here) (c.in_err-callee.ensures.reads _))

pub returns-clause-reads : goal.returns-clause-reads
returns-clause-reads g c next =
    after (fitted _ (sym c.fits_node.ensures ∙ c.if-not-fits_node.false) (came (c.in_ok-callee.ensures.reads (λ x r. rule.after_new (view.room c.args.room) c.args.with_calls x next r)))) (c.after_new.ensures.reads next)
