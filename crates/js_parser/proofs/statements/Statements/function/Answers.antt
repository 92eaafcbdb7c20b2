use Rattle.std.proofs.Common.{sym, ◌∙◌}
use Rattle.std.proofs.lemmas.Result.{err_from_is_err_and}
use Rattle.js_tree.specs.Plain.{func}
use Rattle.js_parser.specs.Grammar.{code}
use Rattle.js_parser.specs.Reads.{is_stuck}
use Rattle.js_parser.proofs.Runs.{onwards}
use Rattle.js_parser.proofs.Steps.{after, came, handed, made}
use Rattle.js_parser.proofs.FormalSteps.{at_a_function, at_no_function}
use Rattle.js_parser.proofs.statements.Statements.function.Goals as goal

pub returns-then-not-at_open_parenthesis-clause-reads : goal.returns-then-not-at_open_parenthesis-clause-reads
returns-then-not-at_open_parenthesis-clause-reads g c next = is_stuck (at_no_function _ (λ ns body r. next (code c.args.name ns body) r) _ (sym c.at_open_parenthesis.ensures.is ∙ c.if-not-at_open_parenthesis.true))

pub returns-in_err-formals-clause-reads : goal.returns-in_err-formals-clause-reads
returns-in_err-formals-clause-reads g c next = handed (err_from_is_err_and _ c.from_residual.ensures.1) (after (at_a_function _ (λ ns body r. next (code c.args.name ns body) r) _ _ (sym c.at_open_parenthesis.ensures.is ∙ c.if-not-at_open_parenthesis.false) c.take.ensures.passed) (c.in_err-formals.ensures.reads _))

pub returns-in_err-close_parenthesis-clause-reads : goal.returns-in_err-close_parenthesis-clause-reads
returns-in_err-close_parenthesis-clause-reads g c next = handed (err_from_is_err_and _ c.from_residual-in_err-close_parenthesis.ensures.1) (after (onwards (at_a_function _ (λ ns body r. next (code c.args.name ns body) r) _ _ (sym c.at_open_parenthesis.ensures.is ∙ c.if-not-at_open_parenthesis.false) c.take.ensures.passed) (came (c.in_ok-formals.ensures.reads _))) (c.in_err-close_parenthesis.ensures.reads _ _))

pub returns-in_err-open_brace-clause-reads : goal.returns-in_err-open_brace-clause-reads
returns-in_err-open_brace-clause-reads g c next = handed (err_from_is_err_and _ c.from_residual-in_err-open_brace.ensures.1) (after (onwards (at_a_function _ (λ ns body r. next (code c.args.name ns body) r) _ _ (sym c.at_open_parenthesis.ensures.is ∙ c.if-not-at_open_parenthesis.false) c.take.ensures.passed) (onwards (came (c.in_ok-formals.ensures.reads _)) (came (c.in_ok-close_parenthesis.ensures.reads _ _)))) (c.in_err-open_brace.ensures.reads _ _))

pub returns-in_err-body-clause-reads : goal.returns-in_err-body-clause-reads
returns-in_err-body-clause-reads g c next = handed (err_from_is_err_and _ c.from_residual-in_err-body.ensures.1) (after (onwards (at_a_function _ (λ ns body r. next (code c.args.name ns body) r) _ _ (sym c.at_open_parenthesis.ensures.is ∙ c.if-not-at_open_parenthesis.false) c.take.ensures.passed) (onwards (came (c.in_ok-formals.ensures.reads _)) (onwards (came (c.in_ok-close_parenthesis.ensures.reads _ _)) (came (c.in_ok-open_brace.ensures.reads _ _))))) (c.in_err-body.ensures.reads _))

pub returns-in_err-close_brace-clause-reads : goal.returns-in_err-close_brace-clause-reads
returns-in_err-close_brace-clause-reads g c next = handed (err_from_is_err_and _ c.from_residual-in_err-close_brace.ensures.1) (after (onwards (at_a_function _ (λ ns body r. next (code c.args.name ns body) r) _ _ (sym c.at_open_parenthesis.ensures.is ∙ c.if-not-at_open_parenthesis.false) c.take.ensures.passed) (onwards (came (c.in_ok-formals.ensures.reads _)) (onwards (came (c.in_ok-close_parenthesis.ensures.reads _ _)) (onwards (came (c.in_ok-open_brace.ensures.reads _ _)) (came (c.in_ok-body.ensures.reads _)))))) (c.in_err-close_brace.ensures.reads _ _))

pub returns-clause-reads : goal.returns-clause-reads
returns-clause-reads g c next = made func next _ _ _ c.function.ensures (onwards (at_a_function _ (λ ns body r. next (code c.args.name ns body) r) _ _ (sym c.at_open_parenthesis.ensures.is ∙ c.if-not-at_open_parenthesis.false) c.take.ensures.passed) (onwards (came (c.in_ok-formals.ensures.reads _)) (onwards (came (c.in_ok-close_parenthesis.ensures.reads _ _)) (onwards (came (c.in_ok-open_brace.ensures.reads _ _)) (onwards (came (c.in_ok-body.ensures.reads _)) (came (c.in_ok-close_brace.ensures.reads _ _)))))))
