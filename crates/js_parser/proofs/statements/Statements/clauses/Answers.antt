use Rattle.std.proofs.Common.{◌&&◌, refl, sym, ap, ◌∙◌, arith}
use Rattle.std.proofs.lemmas.Result.{err_from_is_err_and}
use Rattle.js_parser.specs.ListViews.{clause_parts}
use Rattle.js_parser.specs.Machine.{clauses}
use Rattle.js_parser.specs.Reads.{goes_on, is_stuck}
use Rattle.js_parser.specs.View as view
use Rattle.js_parser.proofs.Runs.{onwards}
use Rattle.js_parser.proofs.Steps.{after, came, handed}
use Rattle.js_parser.proofs.ClauseSteps.{onto, clauses_begin, a_clause, second_default, no_more_clauses}
use Rattle.js_parser.proofs.statements.Statements.clauses.Goals as goal

pub clauses-init : goal.clauses-init
clauses-init g c = record {
  reads = λ next. clauses_begin _ _ _ next _ (ap clause_parts c.new-items.ensures);
  shorter = omega arith;
}

pub returns-then-not-may_come-clause-reads : goal.returns-then-not-may_come-clause-reads
returns-then-not-may_come-clause-reads g c next = is_stuck (onwards (c.clauses.invariant.reads next) (second_default _ _ _ _ (λ more o. next (onto (clause_parts c.clauses.items) more) o) _ (sym c.begins_clause.ensures.is ∙ c.clauses-test.true) c.at_case-tested.ensures.is (sym c.may_come.ensures ∙ c.if-not-may_come.true)))

pub returns-in_err-items-clause-reads : goal.returns-in_err-items-clause-reads
returns-in_err-items-clause-reads g c next =
    handed (err_from_is_err_and _ c.from_residual.ensures.1)
    (after (onwards (c.clauses.invariant.reads next) (a_clause _ _ _ _ _ _ next _ _ (sym c.begins_clause.ensures.is ∙ c.clauses-test.true) c.at_case-tested.ensures.is (sym c.may_come.ensures ∙ c.if-not-may_come.false) c.take.ensures.passed refl)) (c.in_err-items.ensures.reads (λ all r. clauses (view.room c.args.room) (view.context c.args.context.now) (c.at_case-tested.result && c.clauses.default_may_come) (λ more o. next (onto all more) o) r)))

pub clauses-preserved : goal.clauses-preserved
clauses-preserved g c = record {
  reads = λ next. onwards (c.clauses.invariant.reads next) (onwards (a_clause _ _ _ _ _ _ next _ _ (sym c.begins_clause.ensures.is ∙ c.clauses-test.true) c.at_case-tested.ensures.is (sym c.may_come.ensures ∙ c.if-not-may_come.false) c.take.ensures.passed c.may_follow-default_may_come.ensures) (came (c.in_ok-items.ensures.reads (λ all r. clauses (view.room c.args.room) (view.context c.args.context.now) c.may_follow-default_may_come.result (λ more o. next (onto all more) o) r))));
  shorter = omega (arith, c.clauses.invariant.shorter, c.take.ensures.counted, c.in_ok-items.ensures.shorter);
}

pub returns-clause-reads : goal.returns-clause-reads
returns-clause-reads g c next = goes_on (onwards (c.clauses.invariant.reads next) (no_more_clauses _ _ _ _ next _ (sym c.begins_clause.ensures.is ∙ c.clauses-test.false)))
