use Rattle.std.proofs.Common.{sym, ◌∙◌}
use Rattle.std.proofs.lemmas.Result.{err_from_is_err_and}
use Rattle.js_tree.specs.Plain.{stmt}
use Rattle.js_tree.specs.Tree as tree
use Rattle.js_parser.specs.View as view
use Rattle.js_parser.specs.ListViews as lists
use Rattle.js_parser.specs.StatementKinds as kinds
use Rattle.js_parser.proofs.Runs.{onwards}
use Rattle.js_parser.proofs.Steps.{after, came, handed, made}
use Rattle.js_parser.proofs.LoopSteps.{in_of_variable, comma_of_variable, rest_of_variable}
use Rattle.js_parser.proofs.statements.Statements.behind_variable.Goals as goal

pub returns-then-at_in-clause-reads : goal.returns-then-at_in-clause-reads
returns-then-at_in-clause-reads g c next = after (in_of_variable (lists.var_item c.args.item) (view.room c.args.room) (view.context c.args.context.now) next _ _ (sym c.at_in.ensures.is ∙ c.if-at_in.true) c.take.ensures.passed) (c.in_of_variable.ensures.reads next)

pub returns-then-at_comma-clause-reads : goal.returns-then-at_comma-clause-reads
returns-then-at_comma-clause-reads g c next = after (comma_of_variable (lists.var_item c.args.item) (view.room c.args.room) (view.context c.args.context.now) next _ _ (sym c.at_comma.ensures.is ∙ c.if-at_comma.true) c.take-then-at_comma.ensures.passed) (c.more_variables.ensures.reads next)

pub returns-in_err-rest-clause-reads : goal.returns-in_err-rest-clause-reads
returns-in_err-rest-clause-reads g c next = handed (err_from_is_err_and _ c.from_residual.ensures.1) (after (rest_of_variable (lists.var_item c.args.item) (view.room c.args.room) (view.context c.args.context.now) next _ (sym c.at_in.ensures.is ∙ c.if-at_in.false) (sym c.at_comma.ensures.is ∙ c.if-at_comma.false)) (c.in_err-rest.ensures.reads (λ rest r. next (kinds.loop_of (kinds.and_more (lists.var_item c.args.item) tree.NoVarItems) rest) r)))

pub returns-clause-reads : goal.returns-clause-reads
returns-clause-reads g c next = made stmt next _ _ _ c.for_variable.ensures (onwards (rest_of_variable (lists.var_item c.args.item) (view.room c.args.room) (view.context c.args.context.now) next _ (sym c.at_in.ensures.is ∙ c.if-at_in.false) (sym c.at_comma.ensures.is ∙ c.if-at_comma.false)) (came (c.in_ok-rest.ensures.reads (λ rest r. next (kinds.loop_of (kinds.and_more (lists.var_item c.args.item) tree.NoVarItems) rest) r))))
