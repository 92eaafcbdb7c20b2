use Rattle.std.proofs.lemmas.Result.{err_from_is_err_and}
use Rattle.js_parser.specs.Machine.{comma_tail, then_on, here}
use Rattle.js_parser.specs.View as view
use Rattle.js_parser.proofs.Steps.{after, came, handed}
use Rattle.js_parser.proofs.rules.Rules.comma.Goals as goal

pub returns-in_err-first-clause-reads : goal.returns-in_err-first-clause-reads
returns-in_err-first-clause-reads g c next = handed (err_from_is_err_and _ c.from_residual.ensures.1) (after (then_on here) (c.in_err-first.ensures.reads (λ x r. comma_tail (view.room c.args.room) c.args.with_in x next r)))

pub returns-clause-reads : goal.returns-clause-reads
returns-clause-reads g c next = after (then_on (came (c.in_ok-first.ensures.reads (λ x r. comma_tail (view.room c.args.room) c.args.with_in x next r)))) (c.commas.ensures.reads next)
