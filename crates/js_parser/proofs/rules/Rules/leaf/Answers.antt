use Rattle.std.proofs.Common.{sym, ◌∙◌, ap, option_map}
use Rattle.std.proofs.lemmas.Result.{err_from_is_err_and}
use Rattle.js_tree.specs.Plain.{expr}
use Rattle.js_parser.specs.Machine.{here, stuck}
use Rattle.js_parser.specs.Reads.{goes_on, is_stuck}
use Rattle.js_parser.specs.View as view
use Rattle.js_parser.proofs.Runs.{onwards, fitted}
use Rattle.js_parser.proofs.Steps.{after, handed, no_room, out_of_memory}
use Rattle.js_parser.proofs.OperandSteps.{leaf-over, no-leaf, some-leaf}
use Rattle.js_parser.proofs.rules.Rules.leaf.Goals as goal

pub returns-in_default-clause-reads : goal.returns-in_default-clause-reads
returns-in_default-clause-reads g c next = is_stuck (leaf-over (view.room c.args.room) next c.args.tokens.now c.in_default.ensures.is)

pub returns-in_err-leaf-clause-reads : goal.returns-in_err-leaf-clause-reads
returns-in_err-leaf-clause-reads g c next =
    handed (err_from_is_err_and _ c.from_residual.ensures.1)
    (out_of_memory {on = λ (u : Unit {0}). stuck c.args.tokens.now} c.in_err-leaf.ensures.err)

pub returns-in_default-2-clause-reads : goal.returns-in_default-2-clause-reads
returns-in_default-2-clause-reads g c next =
    is_stuck (no-leaf (view.room c.args.room) next c.args.tokens.now c.in-Some.token.now c.in-Some.ensures.is (sym (ap (option_map expr) c.in_default-2.is) ∙ c.in_ok-leaf.ensures.ok))

pub returns-then-not-fits_node-clause-reads : goal.returns-then-not-fits_node-clause-reads
returns-then-not-fits_node-clause-reads g c next =
    after (some-leaf (view.room c.args.room) next c.args.tokens.now c.in-Some.token.now (expr c.in-Some-2.leaf) c.take.new.self c.in-Some.ensures.is (sym (ap (option_map expr) c.in-Some-2.is) ∙ c.in_ok-leaf.ensures.ok) c.take.ensures.passed)
    (no_room _ (sym c.fits_node.ensures ∙ c.if-not-fits_node.true))

pub returns-clause-reads : goal.returns-clause-reads
returns-clause-reads g c next =
    goes_on (onwards (some-leaf (view.room c.args.room) next c.args.tokens.now c.in-Some.token.now (expr c.in-Some-2.leaf) c.take.new.self c.in-Some.ensures.is (sym (ap (option_map expr) c.in-Some-2.is) ∙ c.in_ok-leaf.ensures.ok) c.take.ensures.passed)
    (fitted _ (sym c.fits_node.ensures ∙ c.if-not-fits_node.false) here))
