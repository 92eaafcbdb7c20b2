use Rattle.std.proofs.Common.{sym, ◌∙◌}
use Rattle.std.proofs.lemmas.Result.{err_from_is_err_and}
use Rattle.js_tree.specs.Plain.{expr, stmt}
use Rattle.js_tree.specs.Tree as tree
use Rattle.js_parser.specs.View as view
use Rattle.js_parser.specs.Machine.{ended}
use Rattle.js_parser.specs.Reads.{is_stuck}
use Rattle.js_parser.proofs.Runs.{onwards}
use Rattle.js_parser.proofs.Steps.{after, came, handed, made}
use Rattle.js_parser.proofs.JumpSteps.{throws, throws_nothing}
use Rattle.js_parser.proofs.statements.Statements.thrown.Goals as goal

pub returns-then-not-is_on_line-clause-reads : goal.returns-then-not-is_on_line-clause-reads
returns-then-not-is_on_line-clause-reads g c next = is_stuck (throws_nothing (view.room c.args.room) next _ (sym c.is_on_line.ensures ∙ c.if-not-is_on_line.true))

pub returns-in_err-value-clause-reads : goal.returns-in_err-value-clause-reads
returns-in_err-value-clause-reads g c next = handed (err_from_is_err_and _ c.from_residual.ensures.1) (after (throws (view.room c.args.room) next _ (sym c.is_on_line.ensures ∙ c.if-not-is_on_line.false)) (c.in_err-value.ensures.reads (λ x r. ended (next (tree.Throw x)) r)))

pub returns-in_err-ended-clause-reads : goal.returns-in_err-ended-clause-reads
returns-in_err-ended-clause-reads g c next = handed (err_from_is_err_and _ c.from_residual-in_err-ended.ensures.1) (after (onwards (throws (view.room c.args.room) next _ (sym c.is_on_line.ensures ∙ c.if-not-is_on_line.false)) (came (c.in_ok-value.ensures.reads (λ x r. ended (next (tree.Throw x)) r)))) (c.in_err-ended.ensures.reads _ (next (tree.Throw (expr c.in_ok-value.value)))))

pub returns-clause-reads : goal.returns-clause-reads
returns-clause-reads g c next = made stmt next _ _ _ c.throw.ensures (onwards (throws (view.room c.args.room) next _ (sym c.is_on_line.ensures ∙ c.if-not-is_on_line.false)) (onwards (came (c.in_ok-value.ensures.reads (λ x r. ended (next (tree.Throw x)) r))) (came (c.in_ok-ended.ensures.reads _ (next (tree.Throw (expr c.in_ok-value.value)))))))
