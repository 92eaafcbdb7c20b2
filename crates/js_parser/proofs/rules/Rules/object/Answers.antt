use Rattle.std.proofs.Common.{sym, ◌∙◌}
use Rattle.std.proofs.lemmas.Result.{err_from_is_err_and}
use Rattle.js_tree.specs.Plain.{expr}
use Rattle.js_parser.specs.Machine.{here}
use Rattle.js_parser.proofs.Runs.{onwards, fitted}
use Rattle.js_parser.proofs.Steps.{after, came, handed, made, no_room}
use Rattle.js_parser.proofs.rules.Rules.object.Goals as goal

pub returns-then-not-fits_node-clause-reads : goal.returns-then-not-fits_node-clause-reads
returns-then-not-fits_node-clause-reads g c next = no_room _ (sym c.fits_node.ensures ∙ c.if-not-fits_node.true)

pub returns-in_err-pairs-clause-reads : goal.returns-in_err-pairs-clause-reads
returns-in_err-pairs-clause-reads g c next = handed (err_from_is_err_and _ c.from_residual.ensures.1) (after (fitted _ (sym c.fits_node.ensures ∙ c.if-not-fits_node.false) here) (c.in_err-pairs.ensures.reads _))

pub returns-in_err-close_brace-clause-reads : goal.returns-in_err-close_brace-clause-reads
returns-in_err-close_brace-clause-reads g c next = handed (err_from_is_err_and _ c.from_residual-in_err-close_brace.ensures.1) (after (fitted _ (sym c.fits_node.ensures ∙ c.if-not-fits_node.false) (came (c.in_ok-pairs.ensures.reads _))) (c.in_err-close_brace.ensures.reads _ _))

pub returns-clause-reads : goal.returns-clause-reads
returns-clause-reads g c next = made expr next _ _ _ c.object.ensures (fitted _ (sym c.fits_node.ensures ∙ c.if-not-fits_node.false) (onwards (came (c.in_ok-pairs.ensures.reads _)) (came (c.in_ok-close_brace.ensures.reads _ _))))
