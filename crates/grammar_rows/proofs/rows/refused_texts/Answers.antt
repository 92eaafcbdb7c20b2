use Rattle.grammar_rows.proofs.RefusedTexts as worked
use Rattle.grammar_rows.proofs.rows.refused_texts.Goals as goal

pub returns-clause-with_statement : goal.returns-clause-with_statement
returns-clause-with_statement c = worked.with_statement

pub returns-clause-two_names : goal.returns-clause-two_names
returns-clause-two_names c = worked.two_names

pub returns-clause-own_name : goal.returns-clause-own_name
returns-clause-own_name c = worked.own_name

pub returns-clause-two_functions : goal.returns-clause-two_functions
returns-clause-two_functions c = worked.two_functions

pub returns-clause-nots_accepted : goal.returns-clause-nots_accepted
returns-clause-nots_accepted c = worked.nots_accepted

pub returns-clause-nots_refused : goal.returns-clause-nots_refused
returns-clause-nots_refused c = worked.nots_refused

pub returns-clause-spent : goal.returns-clause-spent
returns-clause-spent c = worked.spent

pub returns-clause-not_only_spent : goal.returns-clause-not_only_spent
returns-clause-not_only_spent c = worked.not_only_spent

pub returns-clause-regular_expression : goal.returns-clause-regular_expression
returns-clause-regular_expression c = worked.regular_expression

pub returns-clause-function_in_if : goal.returns-clause-function_in_if
returns-clause-function_in_if c = worked.function_in_if

pub returns-clause-eval_called : goal.returns-clause-eval_called
returns-clause-eval_called c = worked.eval_called

pub returns-clause-callee_read : goal.returns-clause-callee_read
returns-clause-callee_read c = worked.callee_read

pub returns-clause-arguments_declared : goal.returns-clause-arguments_declared
returns-clause-arguments_declared c = worked.arguments_declared

pub returns-clause-late_in_hexadecimal : goal.returns-clause-late_in_hexadecimal
returns-clause-late_in_hexadecimal c = worked.late_in_hexadecimal
