use Rattle.std.proofs.Common.{sym, ◌∙◌}
use Rattle.std.proofs.lemmas.Result.{err_from_is_err_and}
use Rattle.js_tree.specs.Plain.{expr}
use Rattle.js_parser.specs.Machine.{here}
use Rattle.js_parser.proofs.Runs.{onwards, fitted}
use Rattle.js_parser.proofs.Steps.{after, came, handed, made, no_room}
use Rattle.js_parser.proofs.rules.Rules.conditional.Goals as goal

pub returns-then-not-fits_around-clause-reads : goal.returns-then-not-fits_around-clause-reads
returns-then-not-fits_around-clause-reads g c next = no_room _ (sym c.fits_around.ensures ∙ c.if-not-fits_around.true)

pub returns-in_err-then-clause-reads : goal.returns-in_err-then-clause-reads
returns-in_err-then-clause-reads g c next = handed (err_from_is_err_and _ c.from_residual.ensures.1) (after (fitted _ (sym c.fits_around.ensures ∙ c.if-not-fits_around.false) here) (c.in_err-then.ensures.reads _))

pub returns-in_err-colon-clause-reads : goal.returns-in_err-colon-clause-reads
returns-in_err-colon-clause-reads g c next = handed (err_from_is_err_and _ c.from_residual-in_err-colon.ensures.1) (after (fitted _ (sym c.fits_around.ensures ∙ c.if-not-fits_around.false) (came (c.in_ok-then.ensures.reads _))) (c.in_err-colon.ensures.reads _ _))

pub returns-in_err-other-clause-reads : goal.returns-in_err-other-clause-reads
returns-in_err-other-clause-reads g c next = handed (err_from_is_err_and _ c.from_residual-in_err-other.ensures.1) (after (fitted _ (sym c.fits_around.ensures ∙ c.if-not-fits_around.false) (onwards (came (c.in_ok-then.ensures.reads _)) (came (c.in_ok-colon.ensures.reads _ _)))) (c.in_err-other.ensures.reads _))

pub returns-clause-reads : goal.returns-clause-reads
returns-clause-reads g c next = made expr next _ _ _ c.conditional.ensures (fitted _ (sym c.fits_around.ensures ∙ c.if-not-fits_around.false) (onwards (came (c.in_ok-then.ensures.reads _)) (onwards (came (c.in_ok-colon.ensures.reads _ _)) (came (c.in_ok-other.ensures.reads _)))))
