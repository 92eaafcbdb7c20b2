use Rattle.std.proofs.Common.{[], ◌∷◌, ◌++◌, Some, sym, ◌∙◌}
use Rattle.std.specs.Prelude.{map}
use Rattle.std.proofs.lemmas.Result.{err_from_is_err_and}
use Rattle.js_tree.specs.Tree.{Declare}
use Rattle.js_tree.specs.Plain.{stmt}
use Rattle.js_parser.specs.Machine.{here}
use Rattle.js_parser.specs.Pieces.{function_rule}
use Rattle.js_parser.specs.Rooms.{in_function}
use Rattle.js_parser.specs.View as view
use Rattle.js_parser.proofs.Runs.{onwards, fitted}
use Rattle.js_parser.proofs.Steps.{after, came, handed, made, no_room}
use Rattle.js_parser.proofs.rules.Rules.and_declared.Goals as goal

pub returns-then-not-fits_function-clause-reads : goal.returns-then-not-fits_function-clause-reads
returns-then-not-fits_function-clause-reads g c next = no_room _ (sym c.fits_function.ensures ∙ c.if-not-fits_function.true)

pub returns-in_err-name-clause-reads : goal.returns-in_err-name-clause-reads
returns-in_err-name-clause-reads g c next = handed (err_from_is_err_and _ c.from_residual.ensures.1) (after (fitted _ (sym c.fits_function.ensures ∙ c.if-not-fits_function.false) here) (c.in_err-name.ensures.reads (λ n. function_rule (Some n) (in_function (view.room c.args.room)) (λ f r. next (map stmt c.args.before ++ (Declare f ∷ [])) r))))

pub returns-in_err-function-clause-reads : goal.returns-in_err-function-clause-reads
returns-in_err-function-clause-reads g c next = handed (err_from_is_err_and _ c.from_residual-in_err-function.ensures.1) (after (fitted _ (sym c.fits_function.ensures ∙ c.if-not-fits_function.false) (came (c.in_ok-name.ensures.reads (λ n. function_rule (Some n) (in_function (view.room c.args.room)) (λ f r. next (map stmt c.args.before ++ (Declare f ∷ [])) r))))) (c.in_err-function.ensures.reads (λ f r. next (map stmt c.args.before ++ (Declare f ∷ [])) r)))

pub returns-clause-reads : goal.returns-clause-reads
returns-clause-reads g c next = made (map stmt) next _ _ _ c.with_declared.ensures (fitted _ (sym c.fits_function.ensures ∙ c.if-not-fits_function.false) (onwards (came (c.in_ok-name.ensures.reads (λ n. function_rule (Some n) (in_function (view.room c.args.room)) (λ f r. next (map stmt c.args.before ++ (Declare f ∷ [])) r)))) (came (c.in_ok-function.ensures.reads (λ f r. next (map stmt c.args.before ++ (Declare f ∷ [])) r)))))
