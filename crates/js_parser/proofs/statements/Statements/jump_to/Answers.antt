use Rattle.std.proofs.Common.{sym, ◌∙◌}
use Rattle.std.proofs.lemmas.Result.{err_from_is_err_and}
use Rattle.std.proofs.Common.{Some}
use Rattle.js_parser.specs.Machine.{ended}
use Rattle.js_parser.proofs.Runs.{onwards}
use Rattle.js_parser.proofs.Steps.{after, came, handed, made, barred}
use Rattle.js_parser.proofs.StatementSteps.{allowed_behind}
use Rattle.js_parser.proofs.statements.Statements.jump_to.Goals as goal

pub returns-then-not-may_jump-clause-reads : goal.returns-then-not-may_jump-clause-reads
returns-then-not-may_jump-clause-reads g c next = barred _ (sym c.may_jump.ensures ∙ c.if-not-may_jump.true)

pub returns-in_err-ended-clause-reads : goal.returns-in_err-ended-clause-reads
returns-in_err-ended-clause-reads g c next = handed (err_from_is_err_and _ c.from_residual.ensures.1) (after (allowed_behind (λ r. ended (next (Some c.args.name.now)) r) _ _ (sym c.may_jump.ensures ∙ c.if-not-may_jump.false) c.take.ensures.passed) (c.in_err-ended.ensures.reads _ (next (Some c.args.name.now))))

pub returns-clause-reads : goal.returns-clause-reads
returns-clause-reads g c next = made (λ label. label) next _ _ _ c.label.ensures (onwards (allowed_behind (λ r. ended (next (Some c.args.name.now)) r) _ _ (sym c.may_jump.ensures ∙ c.if-not-may_jump.false) c.take.ensures.passed) (came (c.in_ok-ended.ensures.reads _ (next (Some c.args.name.now)))))
