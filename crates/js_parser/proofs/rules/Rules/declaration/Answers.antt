use Rattle.std.proofs.Common.{Some, sym, ◌∙◌}
use Rattle.std.proofs.lemmas.Result.{err_from_is_err_and}
use Rattle.js_tree.specs.Plain.{stmt}
use Rattle.js_tree.specs.Tree as tree
use Rattle.js_parser.specs.Machine.{here}
use Rattle.js_parser.specs.Pieces.{function_rule}
use Rattle.js_parser.specs.Rooms as rooms
use Rattle.js_parser.specs.View as view
use Rattle.js_parser.proofs.ElementSteps.{by_name}
use Rattle.js_parser.proofs.Runs.{onwards, fitted}
use Rattle.js_parser.proofs.Steps.{after, came, handed, made, no_room}
use Rattle.js_parser.proofs.rules.Rules.declaration.Goals as goal

pub returns-then-not-fits_function-clause-reads : goal.returns-then-not-fits_function-clause-reads
returns-then-not-fits_function-clause-reads g c next = no_room _ (sym c.fits_function.ensures ∙ c.if-not-fits_function.true)

pub returns-in_err-name-clause-reads : goal.returns-in_err-name-clause-reads
returns-in_err-name-clause-reads g c next =
    handed (err_from_is_err_and _ c.from_residual.ensures.1)
    (after (fitted _ (sym c.fits_function.ensures ∙ c.if-not-fits_function.false) (by_name (view.room c.args.room) next c.args.tokens.now here))
    (c.in_err-name.ensures.reads (λ n. function_rule (Some n) (rooms.in_function (view.room c.args.room)) (λ f r. next (tree.Declare f) r))))

pub returns-in_err-function-clause-reads : goal.returns-in_err-function-clause-reads
returns-in_err-function-clause-reads g c next =
    handed (err_from_is_err_and _ c.from_residual-in_err-function.ensures.1)
    (after (fitted _ (sym c.fits_function.ensures ∙ c.if-not-fits_function.false) (by_name (view.room c.args.room) next c.args.tokens.now
    (came (c.in_ok-name.ensures.reads (λ n. function_rule (Some n) (rooms.in_function (view.room c.args.room)) (λ f r. next (tree.Declare f) r))))))
    (c.in_err-function.ensures.reads (λ f r. next (tree.Declare f) r)))

pub returns-clause-reads : goal.returns-clause-reads
returns-clause-reads g c next =
    made stmt next _ _ _ c.declaration.ensures
    (fitted _ (sym c.fits_function.ensures ∙ c.if-not-fits_function.false) (by_name (view.room c.args.room) next c.args.tokens.now
    (onwards (came (c.in_ok-name.ensures.reads (λ n. function_rule (Some n) (rooms.in_function (view.room c.args.room)) (λ f r. next (tree.Declare f) r))))
    (came (c.in_ok-function.ensures.reads (λ f r. next (tree.Declare f) r))))))
