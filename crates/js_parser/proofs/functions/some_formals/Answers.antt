use Rattle.std.proofs.Common.{◌++◌, sym, ◌∙◌, arith}
use Rattle.std.proofs.lemmas.Result.{err_from_is_err_and}
use Rattle.js_parser.specs.Reads.{goes_on, is_stuck}
use Rattle.js_parser.specs.StatementPieces.{more_formals}
use Rattle.js_parser.proofs.Runs.{onwards}
use Rattle.js_parser.proofs.Steps.{after, came, handed}
use Rattle.js_parser.proofs.FormalSteps.{first_formal, one_more_formal, no_more_formals, none_behind_formals}
use Rattle.js_parser.proofs.functions.some_formals.Goals as goal

pub returns-in_err-names-clause-reads : goal.returns-in_err-names-clause-reads
returns-in_err-names-clause-reads c next =
    handed (err_from_is_err_and _ c.from_residual.ensures.1)
    (after (first_formal _ next c.args.tokens.now c.new-none.ensures) (c.in_err-names.ensures.reads (λ all r. more_formals all (λ more o. next (all ++ more) o) r)))

pub formals-init : goal.formals-init
formals-init c = record {
  reads = λ next. onwards (first_formal _ next c.args.tokens.now c.new-none.ensures) (came (c.in_ok-names.ensures.reads (λ all r. more_formals all (λ more o. next (all ++ more) o) r)));
  distinct = c.in_ok-names.ensures.distinct;
  shorter = c.in_ok-names.ensures.shorter;
}

pub returns-in_err-names-2-clause-reads : goal.returns-in_err-names-2-clause-reads
returns-in_err-names-2-clause-reads c next =
    handed (err_from_is_err_and _ c.from_residual-in_err-names-2.ensures.1)
    (after (onwards (c.formals.invariant.reads next) (one_more_formal _ next _ _ (sym c.at_comma.ensures.is ∙ c.formals-test.true) c.take.ensures.passed)) (c.in_err-names-2.ensures.reads (λ all r. more_formals all (λ more o. next (all ++ more) o) r)))

pub formals-preserved : goal.formals-preserved
formals-preserved c = record {
  reads = λ next. onwards (c.formals.invariant.reads next) (onwards (one_more_formal _ next _ _ (sym c.at_comma.ensures.is ∙ c.formals-test.true) c.take.ensures.passed) (came (c.in_ok-names-2.ensures.reads (λ all r. more_formals all (λ more o. next (all ++ more) o) r))));
  distinct = c.in_ok-names-2.ensures.distinct;
  shorter = omega (arith, c.formals.invariant.shorter, c.take.ensures.counted, c.in_ok-names-2.ensures.shorter);
}

pub returns-then-not-at_any-clause-reads : goal.returns-then-not-at_any-clause-reads
returns-then-not-at_any-clause-reads c next = is_stuck (onwards (c.formals.invariant.reads next) (none_behind_formals _ (λ more o. next (c.formals.names ++ more) o) _ (sym c.at_any.ensures.is ∙ c.if-not-at_any.true)))

pub returns-clause-reads : goal.returns-clause-reads
returns-clause-reads c next = goes_on (onwards (c.formals.invariant.reads next) (no_more_formals _ next _ (sym c.at_comma.ensures.is ∙ c.formals-test.false) (sym c.at_any.ensures.is ∙ c.if-not-at_any.false)))
