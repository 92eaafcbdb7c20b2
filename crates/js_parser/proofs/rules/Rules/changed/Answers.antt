use Rattle.std.proofs.Common.{sym, ◌∙◌}
use Rattle.std.proofs.lemmas.Result.{err_from_is_err_and}
use Rattle.js_tree.specs.Plain.{expr}
use Rattle.js_parser.specs.Machine.{here}
use Rattle.js_parser.proofs.Runs.{onwards, allowed, fitted}
use Rattle.js_parser.proofs.Steps.{after, came, handed, made, no_room, barred}
use Rattle.js_parser.proofs.rules.Rules.changed.Goals as goal

pub returns-then-not-fits_node-clause-reads : goal.returns-then-not-fits_node-clause-reads
returns-then-not-fits_node-clause-reads g c next = no_room _ (sym c.fits_node.ensures ∙ c.if-not-fits_node.true)

pub returns-in_err-target-clause-reads : goal.returns-in_err-target-clause-reads
returns-in_err-target-clause-reads g c next = handed (err_from_is_err_and _ c.from_residual.ensures.1) (after (fitted _ (sym c.fits_node.ensures ∙ c.if-not-fits_node.false) here) (c.in_err-target.ensures.reads _))

pub returns-then-not-is_target-clause-reads : goal.returns-then-not-is_target-clause-reads
returns-then-not-is_target-clause-reads g c next = after (fitted _ (sym c.fits_node.ensures ∙ c.if-not-fits_node.false) (came (c.in_ok-target.ensures.reads _))) (barred _ (sym c.is_target.ensures ∙ c.if-not-is_target.true))

pub returns-clause-reads : goal.returns-clause-reads
returns-clause-reads g c next = made expr next _ _ _ c.prefix.ensures (fitted _ (sym c.fits_node.ensures ∙ c.if-not-fits_node.false) (onwards (came (c.in_ok-target.ensures.reads _)) (allowed _ (sym c.is_target.ensures ∙ c.if-not-is_target.false) here)))
