use Rattle.std.proofs.Common.{[], ◌∷◌, ◌++◌}
use Rattle.std.proofs.lemmas.Result.{err_from_is_err_and}
use Rattle.js_parser.specs.ListViews.{clause_parts}
use Rattle.js_parser.specs.Machine.{expect, is_colon, list}
use Rattle.js_parser.specs.View as view
use Rattle.js_parser.proofs.Runs.{onwards}
use Rattle.js_parser.proofs.Steps.{after, came, handed, made}
use Rattle.js_parser.proofs.statements.Statements.and_clause.Goals as goal

pub returns-in_err-test-clause-reads : goal.returns-in_err-test-clause-reads
returns-in_err-test-clause-reads g c next = handed (err_from_is_err_and _ c.from_residual.ensures.1) (c.in_err-test.ensures.reads (λ test. expect is_colon (list (view.room c.args.room) (view.context c.args.context.now) (λ body r. next (clause_parts c.args.before ++ (record { test = test; body = body } ∷ [])) r))))

pub returns-in_err-colon-clause-reads : goal.returns-in_err-colon-clause-reads
returns-in_err-colon-clause-reads g c next = handed (err_from_is_err_and _ c.from_residual-in_err-colon.ensures.1) (after (came (c.in_ok-test.ensures.reads (λ test. expect is_colon (list (view.room c.args.room) (view.context c.args.context.now) (λ body r. next (clause_parts c.args.before ++ (record { test = test; body = body } ∷ [])) r))))) (c.in_err-colon.ensures.reads _ _))

pub returns-in_err-body-clause-reads : goal.returns-in_err-body-clause-reads
returns-in_err-body-clause-reads g c next = handed (err_from_is_err_and _ c.from_residual-in_err-body.ensures.1) (after (onwards (came (c.in_ok-test.ensures.reads (λ test. expect is_colon (list (view.room c.args.room) (view.context c.args.context.now) (λ body r. next (clause_parts c.args.before ++ (record { test = test; body = body } ∷ [])) r))))) (came (c.in_ok-colon.ensures.reads _ _))) (c.in_err-body.ensures.reads _))

pub returns-clause-reads : goal.returns-clause-reads
returns-clause-reads g c next = made clause_parts next _ _ _ c.with_clause.ensures (onwards (came (c.in_ok-test.ensures.reads (λ test. expect is_colon (list (view.room c.args.room) (view.context c.args.context.now) (λ body r. next (clause_parts c.args.before ++ (record { test = test; body = body } ∷ [])) r))))) (onwards (came (c.in_ok-colon.ensures.reads _ _)) (came (c.in_ok-body.ensures.reads _))))
