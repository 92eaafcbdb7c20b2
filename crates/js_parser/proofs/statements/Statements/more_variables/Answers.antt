use Rattle.std.proofs.lemmas.Result.{err_from_is_err_and}
use Rattle.js_tree.specs.Plain.{stmt}
use Rattle.js_parser.specs.ListViews as lists
use Rattle.js_parser.specs.StatementKinds as kinds
use Rattle.js_parser.proofs.Runs.{onwards}
use Rattle.js_parser.proofs.Steps.{after, came, handed, made}
use Rattle.js_parser.proofs.statements.Statements.more_variables.Goals as goal

pub returns-in_err-items-clause-reads : goal.returns-in_err-items-clause-reads
returns-in_err-items-clause-reads g c next = handed (err_from_is_err_and _ c.from_residual.ensures.1) (c.in_err-items.ensures.reads _)

pub returns-in_err-rest-clause-reads : goal.returns-in_err-rest-clause-reads
returns-in_err-rest-clause-reads g c next = handed (err_from_is_err_and _ c.from_residual-in_err-rest.ensures.1) (after (came (c.in_ok-items.ensures.reads _)) (c.in_err-rest.ensures.reads (λ rest r. next (kinds.loop_of (kinds.and_more (lists.var_item c.args.item) (lists.var_items c.in_ok-items.items)) rest) r)))

pub returns-clause-reads : goal.returns-clause-reads
returns-clause-reads g c next = made stmt next _ _ _ c.for_variables.ensures (onwards (came (c.in_ok-items.ensures.reads _)) (came (c.in_ok-rest.ensures.reads (λ rest r. next (kinds.loop_of (kinds.and_more (lists.var_item c.args.item) (lists.var_items c.in_ok-items.items)) rest) r))))
