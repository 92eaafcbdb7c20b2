use Rattle.grammar_rows.proofs.texts.AssignmentsTexts as text
use Rattle.grammar_rows.proofs.expression_rows.assignments.Goals as goal

pub returns-clause-assigned : goal.returns-clause-assigned
returns-clause-assigned c = text.assigned

pub returns-clause-shifted : goal.returns-clause-shifted
returns-clause-shifted c = text.shifted

pub returns-clause-to_the_right : goal.returns-clause-to_the_right
returns-clause-to_the_right c = text.to_the_right

pub returns-clause-above_conditional : goal.returns-clause-above_conditional
returns-clause-above_conditional c = text.above_conditional

pub returns-clause-in_conditional : goal.returns-clause-in_conditional
returns-clause-in_conditional c = text.in_conditional

pub returns-clause-conditionals : goal.returns-clause-conditionals
returns-clause-conditionals c = text.conditionals

pub returns-clause-above_or : goal.returns-clause-above_or
returns-clause-above_or c = text.above_or

pub returns-clause-commas : goal.returns-clause-commas
returns-clause-commas c = text.commas

pub returns-clause-above_comma : goal.returns-clause-above_comma
returns-clause-above_comma c = text.above_comma

pub returns-clause-targets : goal.returns-clause-targets
returns-clause-targets c = text.targets

pub returns-clause-no_number : goal.returns-clause-no_number
returns-clause-no_number c = text.no_number

pub returns-clause-no_call : goal.returns-clause-no_call
returns-clause-no_call c = text.no_call

pub returns-clause-no_sum : goal.returns-clause-no_sum
returns-clause-no_sum c = text.no_sum

pub returns-clause-no_conditional : goal.returns-clause-no_conditional
returns-clause-no_conditional c = text.no_conditional

pub returns-clause-no_negation : goal.returns-clause-no_negation
returns-clause-no_negation c = text.no_negation

pub returns-clause-no_parenthesised_sum : goal.returns-clause-no_parenthesised_sum
returns-clause-no_parenthesised_sum c = text.no_parenthesised_sum

pub returns-clause-no_new : goal.returns-clause-no_new
returns-clause-no_new c = text.no_new

pub returns-clause-no_postfix : goal.returns-clause-no_postfix
returns-clause-no_postfix c = text.no_postfix

pub returns-clause-no_assignment : goal.returns-clause-no_assignment
returns-clause-no_assignment c = text.no_assignment

pub returns-clause-no_this : goal.returns-clause-no_this
returns-clause-no_this c = text.no_this

pub returns-clause-middle_without_comma : goal.returns-clause-middle_without_comma
returns-clause-middle_without_comma c = text.middle_without_comma

pub returns-clause-middle_without_end : goal.returns-clause-middle_without_end
returns-clause-middle_without_end c = text.middle_without_end

pub returns-clause-other_is_needed : goal.returns-clause-other_is_needed
returns-clause-other_is_needed c = text.other_is_needed
