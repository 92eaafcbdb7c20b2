use Rattle.std.proofs.Common.{sym, ap, ◌∙◌, arith}
use Rattle.std.specs.Prelude.{map}
use Rattle.std.proofs.lemmas.Result.{err_from_is_err_and}
use Rattle.js_tree.specs.Plain.{stmt}
use Rattle.js_parser.specs.Machine.{list}
use Rattle.js_parser.specs.Reads.{goes_on}
use Rattle.js_parser.specs.View as view
use Rattle.js_parser.proofs.Runs.{onwards}
use Rattle.js_parser.proofs.Steps.{after, came, handed}
use Rattle.js_parser.proofs.ListSteps.{onto, list_begins, list_goes_on, list_ends}
use Rattle.js_parser.proofs.statements.Statements.list.Goals as goal

pub statements-init : goal.statements-init
statements-init g c = record {
  reads = λ next. list_begins _ _ _ next _ (ap (map stmt) c.new-items.ensures);
  shorter = omega arith;
}

pub returns-in_err-items-clause-reads : goal.returns-in_err-items-clause-reads
returns-in_err-items-clause-reads g c next =
    handed (err_from_is_err_and _ c.from_residual.ensures.1)
    (after (onwards (c.statements.invariant.reads next) (list_goes_on _ _ _ next _ (sym c.goes_on_list.ensures.is ∙ c.statements-test.true))) (c.in_err-items.ensures.reads (λ all r. list (view.room c.args.room) (view.context c.args.context.now) (λ more o. next (onto all more) o) r)))

pub statements-preserved : goal.statements-preserved
statements-preserved g c = record {
  reads = λ next. onwards (c.statements.invariant.reads next) (onwards (list_goes_on _ _ _ next _ (sym c.goes_on_list.ensures.is ∙ c.statements-test.true)) (came (c.in_ok-items.ensures.reads (λ all r. list (view.room c.args.room) (view.context c.args.context.now) (λ more o. next (onto all more) o) r))));
  shorter = omega (arith, c.statements.invariant.shorter, c.in_ok-items.ensures.shorter);
}

pub returns-clause-reads : goal.returns-clause-reads
returns-clause-reads g c next = goes_on (onwards (c.statements.invariant.reads next) (list_ends _ _ _ next _ (sym c.goes_on_list.ensures.is ∙ c.statements-test.false)))
