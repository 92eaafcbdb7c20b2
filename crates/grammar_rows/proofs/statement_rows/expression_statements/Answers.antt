use Rattle.grammar_rows.proofs.texts.ExpressionStatementsTexts as text
use Rattle.grammar_rows.proofs.statement_rows.expression_statements.Goals as goal

pub returns-clause-in_parentheses : goal.returns-clause-in_parentheses
returns-clause-in_parentheses c = text.in_parentheses

pub returns-clause-inside : goal.returns-clause-inside
returns-clause-inside c = text.inside

pub returns-clause-brace_is_a_block : goal.returns-clause-brace_is_a_block
returns-clause-brace_is_a_block c = text.brace_is_a_block

pub returns-clause-function_is_declared : goal.returns-clause-function_is_declared
returns-clause-function_is_declared c = text.function_is_declared

pub returns-clause-declared : goal.returns-clause-declared
returns-clause-declared c = text.declared

pub returns-clause-none_in_blocks : goal.returns-clause-none_in_blocks
returns-clause-none_in_blocks c = text.none_in_blocks

pub returns-clause-none_in_choices : goal.returns-clause-none_in_choices
returns-clause-none_in_choices c = text.none_in_choices

pub returns-clause-none_in_else : goal.returns-clause-none_in_else
returns-clause-none_in_else c = text.none_in_else

pub returns-clause-none_in_loops : goal.returns-clause-none_in_loops
returns-clause-none_in_loops c = text.none_in_loops

pub returns-clause-none_behind_labels : goal.returns-clause-none_behind_labels
returns-clause-none_behind_labels c = text.none_behind_labels

pub returns-clause-none_in_clauses : goal.returns-clause-none_in_clauses
returns-clause-none_in_clauses c = text.none_in_clauses

pub returns-clause-none_in_tries : goal.returns-clause-none_in_tries
returns-clause-none_in_tries c = text.none_in_tries

pub returns-clause-none_in_do : goal.returns-clause-none_in_do
returns-clause-none_in_do c = text.none_in_do

pub returns-clause-none_in_for : goal.returns-clause-none_in_for
returns-clause-none_in_for c = text.none_in_for
