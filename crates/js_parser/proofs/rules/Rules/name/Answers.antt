use Rattle.std.proofs.Common.{sym, ◌∙◌}
use Rattle.js_tree.specs.Plain.{expr}
use Rattle.js_parser.specs.Machine.{here}
use Rattle.js_parser.specs.Reads.{is_stuck}
use Rattle.js_parser.specs.View as view
use Rattle.js_parser.proofs.Runs.{onwards, fitted}
use Rattle.js_parser.proofs.Steps.{after, made, no_room}
use Rattle.js_parser.proofs.OperandSteps.{late-name, no-reference, reference}
use Rattle.js_parser.proofs.rules.Rules.name.Goals as goal

pub returns-then-is_eval-clause-reads : goal.returns-then-is_eval-clause-reads
returns-then-is_eval-clause-reads g c next = after (late-name (view.room c.args.room) next c.args.tokens.now c.args.name.now (sym c.is_eval.ensures ∙ c.if-is_eval.true)) (c.late_in.ensures.reads _ next)

pub returns-then-not-is_reference-clause-reads : goal.returns-then-not-is_reference-clause-reads
returns-then-not-is_reference-clause-reads g c next =
    is_stuck (no-reference (view.room c.args.room) next c.args.tokens.now c.args.name.now (sym c.is_eval.ensures ∙ c.if-is_eval.false) (sym c.is_reference.ensures ∙ c.if-not-is_reference.true))

pub returns-then-not-fits_node-clause-reads : goal.returns-then-not-fits_node-clause-reads
returns-then-not-fits_node-clause-reads g c next =
    after (reference (view.room c.args.room) next c.args.tokens.now c.args.name.now c.take.new.self (sym c.is_eval.ensures ∙ c.if-is_eval.false) (sym c.is_reference.ensures ∙ c.if-not-is_reference.false) c.take.ensures.passed)
    (no_room _ (sym c.fits_node.ensures ∙ c.if-not-fits_node.true))

pub returns-clause-reads : goal.returns-clause-reads
returns-clause-reads g c next =
    made expr next _ _ _ c.name.ensures
    (onwards (reference (view.room c.args.room) next c.args.tokens.now c.args.name.now c.take.new.self (sym c.is_eval.ensures ∙ c.if-is_eval.false) (sym c.is_reference.ensures ∙ c.if-not-is_reference.false) c.take.ensures.passed)
    (fitted _ (sym c.fits_node.ensures ∙ c.if-not-fits_node.false) here))
