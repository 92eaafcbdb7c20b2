use Rattle.grammar_rows.proofs.texts.ParenthesesTexts as text
use Rattle.grammar_rows.proofs.printed_rows.parentheses.Goals as goal

pub returns-clause-below_a_level : goal.returns-clause-below_a_level
returns-clause-below_a_level c = text.below_a_level

pub returns-clause-at_a_level : goal.returns-clause-at_a_level
returns-clause-at_a_level c = text.at_a_level

pub returns-clause-logical : goal.returns-clause-logical
returns-clause-logical c = text.logical

pub returns-clause-commas : goal.returns-clause-commas
returns-clause-commas c = text.commas

pub returns-clause-more_commas : goal.returns-clause-more_commas
returns-clause-more_commas c = text.more_commas

pub returns-clause-conditionals : goal.returns-clause-conditionals
returns-clause-conditionals c = text.conditionals

pub returns-clause-prefixes : goal.returns-clause-prefixes
returns-clause-prefixes c = text.prefixes

pub returns-clause-members : goal.returns-clause-members
returns-clause-members c = text.members

pub returns-clause-numbers : goal.returns-clause-numbers
returns-clause-numbers c = text.numbers

pub returns-clause-functions : goal.returns-clause-functions
returns-clause-functions c = text.functions

pub returns-clause-functions_elsewhere : goal.returns-clause-functions_elsewhere
returns-clause-functions_elsewhere c = text.functions_elsewhere

pub returns-clause-callees : goal.returns-clause-callees
returns-clause-callees c = text.callees

pub returns-clause-new_callees : goal.returns-clause-new_callees
returns-clause-new_callees c = text.new_callees

pub returns-clause-objects_and_arrays : goal.returns-clause-objects_and_arrays
returns-clause-objects_and_arrays c = text.objects_and_arrays

pub returns-clause-headers : goal.returns-clause-headers
returns-clause-headers c = text.headers

pub returns-clause-header_brackets : goal.returns-clause-header_brackets
returns-clause-header_brackets c = text.header_brackets

pub returns-clause-header_parentheses : goal.returns-clause-header_parentheses
returns-clause-header_parentheses c = text.header_parentheses

pub returns-clause-header_operands : goal.returns-clause-header_operands
returns-clause-header_operands c = text.header_operands

pub returns-clause-header_function : goal.returns-clause-header_function
returns-clause-header_function c = text.header_function

pub returns-clause-parts : goal.returns-clause-parts
returns-clause-parts c = text.parts

pub returns-clause-statements_begin : goal.returns-clause-statements_begin
returns-clause-statements_begin c = text.statements_begin
