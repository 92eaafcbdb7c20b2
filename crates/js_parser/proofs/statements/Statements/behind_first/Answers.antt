use Rattle.std.proofs.Common.{sym, ◌∙◌}
use Rattle.std.proofs.lemmas.Result.{err_from_is_err_and}
use Rattle.js_tree.specs.Plain.{expr, stmt}
use Rattle.js_tree.specs.Tree as tree
use Rattle.js_parser.specs.View as view
use Rattle.js_parser.specs.StatementKinds as kinds
use Rattle.js_parser.specs.Reads.{is_stuck}
use Rattle.js_parser.proofs.Runs.{onwards}
use Rattle.js_parser.proofs.Steps.{after, came, handed, made}
use Rattle.js_parser.proofs.LoopSteps.{in_of_target, in_of_no_target, rest_of_first}
use Rattle.js_parser.proofs.statements.Statements.behind_first.Goals as goal

pub returns-in_err-rest-clause-reads : goal.returns-in_err-rest-clause-reads
returns-in_err-rest-clause-reads g c next = handed (err_from_is_err_and _ c.from_residual.ensures.1) (after (rest_of_first (expr c.args.first) (view.room c.args.room) (view.context c.args.context.now) next _ (sym c.at_in.ensures.is ∙ c.if-not-at_in.true)) (c.in_err-rest.ensures.reads (λ rest r. next (kinds.loop_of (tree.First (expr c.args.first)) rest) r)))

pub returns-then-not-at_in-clause-reads : goal.returns-then-not-at_in-clause-reads
returns-then-not-at_in-clause-reads g c next = made stmt next _ _ _ c.for_first.ensures (onwards (rest_of_first (expr c.args.first) (view.room c.args.room) (view.context c.args.context.now) next _ (sym c.at_in.ensures.is ∙ c.if-not-at_in.true)) (came (c.in_ok-rest.ensures.reads (λ rest r. next (kinds.loop_of (tree.First (expr c.args.first)) rest) r))))

pub returns-then-not-is_target-clause-reads : goal.returns-then-not-is_target-clause-reads
returns-then-not-is_target-clause-reads g c next = is_stuck (in_of_no_target (expr c.args.first) (view.room c.args.room) (view.context c.args.context.now) next _ (sym c.at_in.ensures.is ∙ c.if-not-at_in.false) (sym c.is_target.ensures ∙ c.if-not-is_target.true))

pub returns-clause-reads : goal.returns-clause-reads
returns-clause-reads g c next = after (in_of_target (expr c.args.first) (view.room c.args.room) (view.context c.args.context.now) next _ _ (sym c.at_in.ensures.is ∙ c.if-not-at_in.false) (sym c.is_target.ensures ∙ c.if-not-is_target.false) c.take.ensures.passed) (c.in_of_target.ensures.reads next)
