use Rattle.std.proofs.Common.{sym, ap, ◌∙◌, arith}
use Rattle.std.specs.Prelude.{map}
use Rattle.std.proofs.lemmas.Result.{err_from_is_err_and}
use Rattle.js_tree.specs.Plain.{stmt}
use Rattle.js_parser.specs.Machine.{source}
use Rattle.js_parser.specs.Reads.{goes_on}
use Rattle.js_parser.specs.View as view
use Rattle.js_parser.proofs.Runs.{onwards}
use Rattle.js_parser.proofs.Steps.{after, came, handed}
use Rattle.js_parser.proofs.ListSteps.{onto, source_begins, source_goes_on, source_ends}
use Rattle.js_parser.proofs.statements.Statements.source.Goals as goal

pub elements-init : goal.elements-init
elements-init g c = record {
  reads = λ next. source_begins _ _ _ next _ (ap (map stmt) c.new-items.ensures);
  shorter = omega arith;
}

pub returns-in_err-items-clause-reads : goal.returns-in_err-items-clause-reads
returns-in_err-items-clause-reads g c next =
    handed (err_from_is_err_and _ c.from_residual.ensures.1)
    (after (onwards (c.elements.invariant.reads next) (source_goes_on _ _ _ next _ (sym c.goes_on_elements.ensures.is ∙ c.elements-test.true))) (c.in_err-items.ensures.reads (λ all r. source (view.room c.args.room) (view.context c.args.context.now) (λ more o. next (onto all more) o) r)))

pub elements-preserved : goal.elements-preserved
elements-preserved g c = record {
  reads = λ next. onwards (c.elements.invariant.reads next) (onwards (source_goes_on _ _ _ next _ (sym c.goes_on_elements.ensures.is ∙ c.elements-test.true)) (came (c.in_ok-items.ensures.reads (λ all r. source (view.room c.args.room) (view.context c.args.context.now) (λ more o. next (onto all more) o) r))));
  shorter = omega (arith, c.elements.invariant.shorter, c.in_ok-items.ensures.shorter);
}

pub returns-clause-reads : goal.returns-clause-reads
returns-clause-reads g c next = goes_on (onwards (c.elements.invariant.reads next) (source_ends _ _ _ next _ (sym c.goes_on_elements.ensures.is ∙ c.elements-test.false)))
