use Rattle.std.proofs.Common.{sym, ap, ◌∙◌, arith}
use Rattle.std.proofs.lemmas.Result.{err_from_is_err_and}
use Rattle.js_parser.specs.ListViews.{var_parts}
use Rattle.js_parser.specs.Reads.{goes_on}
use Rattle.js_parser.specs.StatementPieces.{more_declarators}
use Rattle.js_parser.specs.View as view
use Rattle.js_parser.proofs.Runs.{onwards}
use Rattle.js_parser.proofs.Steps.{after, came, handed}
use Rattle.js_parser.proofs.DeclaratorSteps.{onto, first_declarator, one_more_declarator, no_more_declarators}
use Rattle.js_parser.proofs.rules.Rules.declarators.Goals as goal

pub returns-in_err-items-clause-reads : goal.returns-in_err-items-clause-reads
returns-in_err-items-clause-reads g c next =
    handed (err_from_is_err_and _ c.from_residual.ensures.1)
    (after (first_declarator _ _ _ next _ (ap var_parts c.new-none.ensures)) (c.in_err-items.ensures.reads (λ us r. more_declarators (view.room c.args.room) c.args.with_in (λ items o. next (onto us items) o) r)))

pub declarators-init : goal.declarators-init
declarators-init g c = record {
  reads = λ next. onwards (first_declarator _ _ _ next _ (ap var_parts c.new-none.ensures)) (came (c.in_ok-items.ensures.reads (λ us r. more_declarators (view.room c.args.room) c.args.with_in (λ items o. next (onto us items) o) r)));
  shorter = c.in_ok-items.ensures.shorter;
}

pub returns-in_err-items-2-clause-reads : goal.returns-in_err-items-2-clause-reads
returns-in_err-items-2-clause-reads g c next =
    handed (err_from_is_err_and _ c.from_residual-in_err-items-2.ensures.1)
    (after (onwards (c.declarators.invariant.reads next) (one_more_declarator _ _ _ next _ _ (sym c.at_comma.ensures.is ∙ c.declarators-test.true) c.take.ensures.passed)) (c.in_err-items-2.ensures.reads (λ us r. more_declarators (view.room c.args.room) c.args.with_in (λ items o. next (onto us items) o) r)))

pub declarators-preserved : goal.declarators-preserved
declarators-preserved g c = record {
  reads = λ next. onwards (c.declarators.invariant.reads next) (onwards (one_more_declarator _ _ _ next _ _ (sym c.at_comma.ensures.is ∙ c.declarators-test.true) c.take.ensures.passed) (came (c.in_ok-items-2.ensures.reads (λ us r. more_declarators (view.room c.args.room) c.args.with_in (λ items o. next (onto us items) o) r))));
  shorter = omega (arith, c.declarators.invariant.shorter, c.take.ensures.counted, c.in_ok-items-2.ensures.shorter);
}

pub returns-clause-reads : goal.returns-clause-reads
returns-clause-reads g c next = goes_on (onwards (c.declarators.invariant.reads next) (no_more_declarators _ _ _ next _ (sym c.at_comma.ensures.is ∙ c.declarators-test.false)))
