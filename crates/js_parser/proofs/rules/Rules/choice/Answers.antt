use Rattle.std.proofs.Common.{sym, ◌∙◌}
use Rattle.js_parser.specs.Reads.{goes_on, is_stuck}
use Rattle.js_parser.proofs.Steps.{after}
use Rattle.js_parser.proofs.OperationSteps.{at_a_question, at_an_assignment, at_no_target, at_no_choice}
use Rattle.js_parser.proofs.rules.Rules.choice.Goals as goal

pub returns-then-at_question-clause-reads : goal.returns-then-at_question-clause-reads
returns-then-at_question-clause-reads g c next = after (at_a_question _ _ _ next _ _ (sym c.at_question.ensures.is ∙ c.if-at_question.true) c.take.ensures.passed) (c.conditional.ensures.reads next)

pub returns-in_default-clause-reads : goal.returns-in_default-clause-reads
returns-in_default-clause-reads g c next = goes_on (at_no_choice _ _ _ next _ (sym c.at_question.ensures.is ∙ c.if-at_question.false) (sym c.assignment_operator.ensures.is ∙ c.in_default.is))

pub returns-then-not-is_target-clause-reads : goal.returns-then-not-is_target-clause-reads
returns-then-not-is_target-clause-reads g c next = is_stuck (at_no_target _ _ _ next _ _ (sym c.assignment_operator.ensures.is ∙ c.in-Some.is) (sym c.is_target.ensures ∙ c.if-not-is_target.true))

pub returns-clause-reads : goal.returns-clause-reads
returns-clause-reads g c next = after (at_an_assignment _ _ _ next _ _ _ (sym c.assignment_operator.ensures.is ∙ c.in-Some.is) (sym c.is_target.ensures ∙ c.if-not-is_target.false) c.take-2.ensures.passed) (c.assigned.ensures.reads next)
