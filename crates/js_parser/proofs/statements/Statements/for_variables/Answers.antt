use Rattle.std.proofs.lemmas.Result.{err_from_is_err_and}
use Rattle.js_parser.specs.View as view
use Rattle.js_parser.specs.StatementKinds as kinds
use Rattle.js_parser.proofs.Steps.{after, came, handed}
use Rattle.js_parser.proofs.statements.Statements.for_variables.Goals as goal

pub returns-in_err-item-clause-reads : goal.returns-in_err-item-clause-reads
returns-in_err-item-clause-reads g c next = handed (err_from_is_err_and _ c.from_residual.ensures.1) (c.in_err-item.ensures.reads (λ v r. kinds.for_var v (view.room c.args.room) (view.context c.args.context.now) next r))

pub returns-clause-reads : goal.returns-clause-reads
returns-clause-reads g c next = after (came (c.in_ok-item.ensures.reads (λ v r. kinds.for_var v (view.room c.args.room) (view.context c.args.context.now) next r))) (c.behind_variable.ensures.reads next)
