use Rattle.grammar_rows.proofs.texts.HeadersTexts as text
use Rattle.grammar_rows.proofs.expression_rows.headers.Goals as goal

pub returns-clause-in_brackets : goal.returns-clause-in_brackets
returns-clause-in_brackets c = text.in_brackets

pub returns-clause-in_parentheses : goal.returns-clause-in_parentheses
returns-clause-in_parentheses c = text.in_parentheses

pub returns-clause-in_the_middle : goal.returns-clause-in_the_middle
returns-clause-in_the_middle c = text.in_the_middle

pub returns-clause-in_a_function : goal.returns-clause-in_a_function
returns-clause-in_a_function c = text.in_a_function

pub returns-clause-behind_the_first : goal.returns-clause-behind_the_first
returns-clause-behind_the_first c = text.behind_the_first

pub returns-clause-elsewhere : goal.returns-clause-elsewhere
returns-clause-elsewhere c = text.elsewhere

pub returns-clause-in_assigned : goal.returns-clause-in_assigned
returns-clause-in_assigned c = text.in_assigned

pub returns-clause-in_second_item : goal.returns-clause-in_second_item
returns-clause-in_second_item c = text.in_second_item

pub returns-clause-in_second_name : goal.returns-clause-in_second_name
returns-clause-in_second_name c = text.in_second_name

pub returns-clause-in_disjunction : goal.returns-clause-in_disjunction
returns-clause-in_disjunction c = text.in_disjunction

pub returns-clause-in_other : goal.returns-clause-in_other
returns-clause-in_other c = text.in_other

pub returns-clause-in_negation : goal.returns-clause-in_negation
returns-clause-in_negation c = text.in_negation

pub returns-clause-in_comma : goal.returns-clause-in_comma
returns-clause-in_comma c = text.in_comma

pub returns-clause-in_call : goal.returns-clause-in_call
returns-clause-in_call c = text.in_call
