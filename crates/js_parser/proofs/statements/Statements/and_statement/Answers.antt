use Rattle.std.proofs.Common.{[], ◌∷◌, ◌++◌}
use Rattle.std.specs.Prelude.{map}
use Rattle.std.proofs.lemmas.Result.{err_from_is_err_and}
use Rattle.js_tree.specs.Plain.{stmt}
use Rattle.js_parser.proofs.Steps.{came, handed, made}
use Rattle.js_parser.proofs.StatementsTake.{statement_takes, always}
use Rattle.js_parser.proofs.statements.Statements.and_statement.Goals as goal

pub returns-in_err-item-clause-reads : goal.returns-in_err-item-clause-reads
returns-in_err-item-clause-reads g c next = handed (err_from_is_err_and _ c.from_residual.ensures.1) (c.in_err-item.ensures.reads (λ x r. next (map stmt c.args.before ++ (x ∷ [])) r))

pub returns-clause-reads : goal.returns-clause-reads
returns-clause-reads g c next = made (map stmt) next _ _ _ c.with_statement.ensures (came (c.in_ok-item.ensures.reads (λ x r. next (map stmt c.args.before ++ (x ∷ [])) r)))

pub returns-clause-some : goal.returns-clause-some
returns-clause-some g c = always _ (statement_takes _ _ _ _ _ (λ next. came (c.in_ok-item.ensures.reads next)))
