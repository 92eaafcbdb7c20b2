use Rattle.std.proofs.Common.{sym, ◌∙◌}
use Rattle.js_tree.specs.Plain.{expr}
use Rattle.js_parser.specs.Machine.{here}
use Rattle.js_parser.specs.Reads.{goes_on, is_stuck}
use Rattle.js_parser.proofs.Runs.{onwards, fitted}
use Rattle.js_parser.proofs.Steps.{after, made, no_room}
use Rattle.js_parser.proofs.OperationSteps.{at_a_postfix, at_no_changed_target, at_no_postfix}
use Rattle.js_parser.proofs.rules.Rules.postfix.Goals as goal

pub returns-in_default-clause-reads : goal.returns-in_default-clause-reads
returns-in_default-clause-reads g c next = goes_on (at_no_postfix _ _ next _ (sym c.postfix_operator.ensures.is ∙ c.in_default.is))

pub returns-then-not-is_target-clause-reads : goal.returns-then-not-is_target-clause-reads
returns-then-not-is_target-clause-reads g c next = is_stuck (at_no_changed_target _ _ next _ _ (sym c.postfix_operator.ensures.is ∙ c.in-Some.is) (sym c.is_target.ensures ∙ c.if-not-is_target.true))

pub returns-then-not-fits_around-clause-reads : goal.returns-then-not-fits_around-clause-reads
returns-then-not-fits_around-clause-reads g c next = after (at_a_postfix _ _ next _ _ _ (sym c.postfix_operator.ensures.is ∙ c.in-Some.is) (sym c.is_target.ensures ∙ c.if-not-is_target.false) c.take.ensures.passed) (no_room _ (sym c.fits_around.ensures ∙ c.if-not-fits_around.true))

pub returns-clause-reads : goal.returns-clause-reads
returns-clause-reads g c next = made expr next _ _ _ c.postfix.ensures (onwards (at_a_postfix _ _ next _ _ _ (sym c.postfix_operator.ensures.is ∙ c.in-Some.is) (sym c.is_target.ensures ∙ c.if-not-is_target.false) c.take.ensures.passed) (fitted _ (sym c.fits_around.ensures ∙ c.if-not-fits_around.false) here))
