use Rattle.std.proofs.Common.{[], ◌∷◌, ◌++◌}
use Rattle.std.proofs.lemmas.Result.{err_from_is_err_and}
use Rattle.js_parser.specs.ListViews.{var_parts}
use Rattle.js_parser.proofs.Steps.{came, handed, made}
use Rattle.js_parser.proofs.rules.Rules.and_declarator.Goals as goal

pub returns-in_err-item-clause-reads : goal.returns-in_err-item-clause-reads
returns-in_err-item-clause-reads g c next = handed (err_from_is_err_and _ c.from_residual.ensures.1) (c.in_err-item.ensures.reads (λ item r. next (var_parts c.args.before ++ (item ∷ [])) r))

pub returns-clause-reads : goal.returns-clause-reads
returns-clause-reads g c next = made var_parts next _ _ _ c.with_declarator.ensures (came (c.in_ok-item.ensures.reads (λ item r. next (var_parts c.args.before ++ (item ∷ [])) r)))
