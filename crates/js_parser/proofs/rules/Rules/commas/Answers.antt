use Rattle.std.proofs.Common.{sym, ◌∙◌, arith}
use Rattle.std.proofs.lemmas.Result.{err_from_is_err_and}
use Rattle.js_parser.specs.Machine.{comma_tail, here}
use Rattle.js_parser.specs.Reads.{goes_on}
use Rattle.js_parser.specs.View as view
use Rattle.js_parser.proofs.Runs.{onwards}
use Rattle.js_parser.proofs.Steps.{after, came, handed}
use Rattle.js_parser.proofs.OperationSteps.{at_a_comma, at_no_comma}
use Rattle.js_parser.proofs.rules.Rules.commas.Goals as goal

pub operators-init : goal.operators-init
operators-init g c = record { reads = λ next. here; shorter = omega arith }

pub returns-in_err-left-clause-reads : goal.returns-in_err-left-clause-reads
returns-in_err-left-clause-reads g c next =
    handed (err_from_is_err_and _ c.from_residual.ensures.1)
    (after (onwards (c.operators.invariant.reads next) (at_a_comma _ _ _ next _ _ (sym c.at_comma.ensures.is ∙ c.operators-test.true) c.take.ensures.passed)) (c.in_err-left.ensures.reads (λ x r. comma_tail (view.room c.args.room) c.args.with_in x next r)))

pub operators-preserved : goal.operators-preserved
operators-preserved g c = record {
  reads = λ next. onwards (c.operators.invariant.reads next) (onwards (at_a_comma _ _ _ next _ _ (sym c.at_comma.ensures.is ∙ c.operators-test.true) c.take.ensures.passed) (came (c.in_ok-left.ensures.reads (λ x r. comma_tail (view.room c.args.room) c.args.with_in x next r))));
  shorter = omega (arith, c.operators.invariant.shorter, c.take.ensures.counted, c.in_ok-left.ensures.shorter);
}

pub returns-clause-reads : goal.returns-clause-reads
returns-clause-reads g c next = goes_on (onwards (c.operators.invariant.reads next) (at_no_comma _ _ _ next _ (sym c.at_comma.ensures.is ∙ c.operators-test.false)))
