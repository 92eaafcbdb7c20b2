use Rattle.grammar_rows.proofs.texts.CallsTexts as text
use Rattle.grammar_rows.proofs.expression_rows.calls.Goals as goal

pub returns-clause-members : goal.returns-clause-members
returns-clause-members c = text.members

pub returns-clause-arguments : goal.returns-clause-arguments
returns-clause-arguments c = text.arguments

pub returns-clause-new_takes_the_first : goal.returns-clause-new_takes_the_first
returns-clause-new_takes_the_first c = text.new_takes_the_first

pub returns-clause-new_without_arguments : goal.returns-clause-new_without_arguments
returns-clause-new_without_arguments c = text.new_without_arguments

pub returns-clause-new_twice : goal.returns-clause-new_twice
returns-clause-new_twice c = text.new_twice

pub returns-clause-new_in_operations : goal.returns-clause-new_in_operations
returns-clause-new_in_operations c = text.new_in_operations

pub returns-clause-argument_list_ends : goal.returns-clause-argument_list_ends
returns-clause-argument_list_ends c = text.argument_list_ends

pub returns-clause-argument_is_needed : goal.returns-clause-argument_is_needed
returns-clause-argument_is_needed c = text.argument_is_needed

pub returns-clause-number_is_no_member : goal.returns-clause-number_is_no_member
returns-clause-number_is_no_member c = text.number_is_no_member

pub returns-clause-word_is_no_member : goal.returns-clause-word_is_no_member
returns-clause-word_is_no_member c = text.word_is_no_member

pub returns-clause-index_is_needed : goal.returns-clause-index_is_needed
returns-clause-index_is_needed c = text.index_is_needed

pub returns-clause-callee_is_needed : goal.returns-clause-callee_is_needed
returns-clause-callee_is_needed c = text.callee_is_needed

pub returns-clause-operand_is_needed : goal.returns-clause-operand_is_needed
returns-clause-operand_is_needed c = text.operand_is_needed

pub returns-clause-empty_parentheses : goal.returns-clause-empty_parentheses
returns-clause-empty_parentheses c = text.empty_parentheses
