use Rattle.std.proofs.lemmas.Result.{err_from_is_err_and}
use Rattle.js_parser.specs.ListViews.{var_item}
use Rattle.js_parser.proofs.Runs.{onwards}
use Rattle.js_parser.proofs.Steps.{after, came, handed, made}
use Rattle.js_parser.proofs.DeclaratorSteps.{a_declarator}
use Rattle.js_parser.proofs.rules.Rules.declarator.Goals as goal

pub returns-in_err-name-clause-reads : goal.returns-in_err-name-clause-reads
returns-in_err-name-clause-reads g c next = handed (err_from_is_err_and _ c.from_residual.ensures.1) (after (a_declarator _ _ (λ n value r. next (record { name = n; value = value }) r) _) (c.in_err-name.ensures.reads _))

pub returns-in_err-value-clause-reads : goal.returns-in_err-value-clause-reads
returns-in_err-value-clause-reads g c next = handed (err_from_is_err_and _ c.from_residual-in_err-value.ensures.1) (after (onwards (a_declarator _ _ (λ n value r. next (record { name = n; value = value }) r) _) (came (c.in_ok-name.ensures.reads _))) (c.in_err-value.ensures.reads (λ value r. next (record { name = c.in_ok-name.name; value = value }) r)))

pub returns-clause-reads : goal.returns-clause-reads
returns-clause-reads g c next = made var_item next _ _ _ c.declarator.ensures (onwards (a_declarator _ _ (λ n value r. next (record { name = n; value = value }) r) _) (onwards (came (c.in_ok-name.ensures.reads _)) (came (c.in_ok-value.ensures.reads (λ value r. next (record { name = c.in_ok-name.name; value = value }) r)))))
