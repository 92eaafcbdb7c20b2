use Rattle.std.proofs.Common.{sym, ◌∙◌, subst}
use Rattle.std.proofs.lemmas.Result.{err_from_is_err_and}
use Rattle.js_tree.specs.Plain.{expr}
use Rattle.js_tree.specs.Tree as tree
use Rattle.js_parser.specs.ExpressionLists as lists
use Rattle.js_parser.specs.Machine as rule
use Rattle.js_parser.specs.Machine.{Goes, stuck}
use Rattle.js_parser.specs.View as view
use Rattle.js_parser.proofs.Runs.{onwards}
use Rattle.js_parser.proofs.Steps.{after, came, handed, made, out_of_memory}
use Rattle.js_parser.proofs.OperandSteps.{new-arguments, no-new-arguments}
use Rattle.js_parser.proofs.rules.Rules.after_new.Goals as goal

pub returns-then-not-at_open_parenthesis-clause-reads : goal.returns-then-not-at_open_parenthesis-clause-reads
returns-then-not-at_open_parenthesis-clause-reads g c next =
    made expr next _ _ _ c.created.ensures
    (subst (λ es. Goes c.args.self.now.form (rule.after_new (view.room c.args.room) c.args.with_calls (expr c.args.callee) next c.args.tokens.now) (next (tree.New (expr c.args.callee) (lists.exprs es)) c.args.tokens.now)) (sym c.new.ensures)
    (no-new-arguments _ _ _ next _ (sym c.at_open_parenthesis.ensures.is ∙ c.if-not-at_open_parenthesis.true)))

pub returns-in_err-arguments-clause-reads : goal.returns-in_err-arguments-clause-reads
returns-in_err-arguments-clause-reads g c next =
    handed (err_from_is_err_and _ c.from_residual.ensures.1)
    (after (new-arguments _ _ _ next _ _ (sym c.at_open_parenthesis.ensures.is ∙ c.if-not-at_open_parenthesis.false) c.take.ensures.passed) (c.in_err-arguments.ensures.reads _))

pub returns-in_err-close_parenthesis-clause-reads : goal.returns-in_err-close_parenthesis-clause-reads
returns-in_err-close_parenthesis-clause-reads g c next =
    handed (err_from_is_err_and _ c.from_residual-in_err-close_parenthesis.ensures.1)
    (after (onwards (new-arguments _ _ _ next _ _ (sym c.at_open_parenthesis.ensures.is ∙ c.if-not-at_open_parenthesis.false) c.take.ensures.passed) (came (c.in_ok-arguments.ensures.reads _))) (c.in_err-close_parenthesis.ensures.reads _ _))

pub returns-in_err-created-clause-reads : goal.returns-in_err-created-clause-reads
returns-in_err-created-clause-reads g c next =
    handed (err_from_is_err_and _ c.from_residual-in_err-created.ensures.1)
    (out_of_memory {on = λ (u : Unit {0}). stuck c.args.tokens.now} c.in_err-created.ensures)

pub returns-clause-reads : goal.returns-clause-reads
returns-clause-reads g c next =
    after (subst (λ x. Goes c.args.self.now.form (rule.after_new (view.room c.args.room) c.args.with_calls (expr c.args.callee) next c.args.tokens.now) (rule.links (view.room c.args.room) c.args.with_calls x next c.close_parenthesis.new.self)) (sym c.in_ok-created.ensures)
    (onwards (new-arguments _ _ _ next _ _ (sym c.at_open_parenthesis.ensures.is ∙ c.if-not-at_open_parenthesis.false) c.take.ensures.passed) (onwards (came (c.in_ok-arguments.ensures.reads _)) (came (c.in_ok-close_parenthesis.ensures.reads _ _)))))
    (c.links.ensures.reads next)
