use Rattle.std.proofs.lemmas.Result.{err_from_is_err_and}
use Rattle.js_tree.specs.Plain.{stmt}
use Rattle.js_tree.specs.Tree as tree
use Rattle.js_parser.specs.View as view
use Rattle.js_parser.specs.Contexts as contexts
use Rattle.js_parser.specs.Machine as rule
use Rattle.js_parser.specs.Rooms as rooms
use Rattle.js_parser.proofs.Runs.{onwards}
use Rattle.js_parser.proofs.Steps.{after, came, handed}
use Rattle.js_parser.proofs.KindSteps.{catches}
use Rattle.js_parser.proofs.statements.Statements.caught.Goals as goal

pub returns-in_err-open_parenthesis-clause-reads : goal.returns-in_err-open_parenthesis-clause-reads
returns-in_err-open_parenthesis-clause-reads g c next = handed (err_from_is_err_and _ c.from_residual.ensures.1) (c.in_err-open_parenthesis.ensures.reads _ _)

pub returns-in_err-name-clause-reads : goal.returns-in_err-name-clause-reads
returns-in_err-name-clause-reads g c next = handed (err_from_is_err_and _ c.from_residual-in_err-name.ensures.1) (after (onwards (came (c.in_ok-open_parenthesis.ensures.reads _ _)) (catches (view.room c.args.room) (contexts.part (view.context c.args.context.now)) (stmt c.args.tried) next c.open_parenthesis.new.self)) (c.in_err-name.ensures.reads (λ n. rule.block (rooms.inside (view.room c.args.room)) (contexts.part (view.context c.args.context.now)) (λ handler r. rule.after_catch (view.room c.args.room) (contexts.part (view.context c.args.context.now)) (stmt c.args.tried) (tree.ACatch n handler) next r))))

pub returns-in_err-handler-clause-reads : goal.returns-in_err-handler-clause-reads
returns-in_err-handler-clause-reads g c next = handed (err_from_is_err_and _ c.from_residual-in_err-handler.ensures.1) (after (onwards (came (c.in_ok-open_parenthesis.ensures.reads _ _)) (onwards (catches (view.room c.args.room) (contexts.part (view.context c.args.context.now)) (stmt c.args.tried) next c.open_parenthesis.new.self) (came (c.in_ok-name.ensures.reads (λ n. rule.block (rooms.inside (view.room c.args.room)) (contexts.part (view.context c.args.context.now)) (λ handler r. rule.after_catch (view.room c.args.room) (contexts.part (view.context c.args.context.now)) (stmt c.args.tried) (tree.ACatch n handler) next r)))))) (c.in_err-handler.ensures.reads (λ handler r. rule.after_catch (view.room c.args.room) (contexts.part (view.context c.args.context.now)) (stmt c.args.tried) (tree.ACatch c.in_ok-name.name handler) next r)))

pub returns-clause-reads : goal.returns-clause-reads
returns-clause-reads g c next = after (onwards (came (c.in_ok-open_parenthesis.ensures.reads _ _)) (onwards (catches (view.room c.args.room) (contexts.part (view.context c.args.context.now)) (stmt c.args.tried) next c.open_parenthesis.new.self) (onwards (came (c.in_ok-name.ensures.reads (λ n. rule.block (rooms.inside (view.room c.args.room)) (contexts.part (view.context c.args.context.now)) (λ handler r. rule.after_catch (view.room c.args.room) (contexts.part (view.context c.args.context.now)) (stmt c.args.tried) (tree.ACatch n handler) next r)))) (came (c.in_ok-handler.ensures.reads (λ handler r. rule.after_catch (view.room c.args.room) (contexts.part (view.context c.args.context.now)) (stmt c.args.tried) (tree.ACatch c.in_ok-name.name handler) next r)))))) (c.after_catch.ensures.reads next)
