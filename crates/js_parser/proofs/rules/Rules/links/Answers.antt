use Rattle.std.proofs.Common.{sym, ◌∙◌, arith}
use Rattle.std.proofs.lemmas.Result.{err_from_is_err_and}
use Rattle.js_parser.specs.Machine as rule
use Rattle.js_parser.specs.Machine.{here}
use Rattle.js_parser.specs.Reads.{goes_on}
use Rattle.js_parser.specs.View as view
use Rattle.js_parser.proofs.Runs.{onwards}
use Rattle.js_parser.proofs.Steps.{after, came, handed}
use Rattle.js_parser.proofs.OperandSteps.{at-link, no-link}
use Rattle.js_parser.proofs.rules.Rules.links.Goals as goal

pub links-init : goal.links-init
links-init g c = record { reads = λ next. here; shorter = omega arith }

pub returns-in_err-operand-clause-reads : goal.returns-in_err-operand-clause-reads
returns-in_err-operand-clause-reads g c next =
    handed (err_from_is_err_and _ c.from_residual.ensures.1)
    (after (onwards (c.links.invariant.reads next) (at-link _ _ _ next _ _ _ (sym c.link_at.ensures.is ∙ c.in-Some.is) c.take.ensures.passed)) (c.in_err-operand.ensures.reads (λ y r. rule.links (view.room c.args.room) c.args.with_calls y next r)))

pub links-preserved : goal.links-preserved
links-preserved g c = record {
  reads = λ next. onwards (c.links.invariant.reads next) (onwards (at-link _ _ _ next _ _ _ (sym c.link_at.ensures.is ∙ c.in-Some.is) c.take.ensures.passed) (came (c.in_ok-operand.ensures.reads (λ y r. rule.links (view.room c.args.room) c.args.with_calls y next r))));
  shorter = omega (arith, c.links.invariant.shorter, c.take.ensures.counted, c.in_ok-operand.ensures.shorter);
}

pub returns-clause-reads : goal.returns-clause-reads
returns-clause-reads g c next = goes_on (onwards (c.links.invariant.reads next) (no-link _ _ _ next _ (sym c.link_at.ensures.is ∙ c.in_default.is)))
