use Rattle.grammar_rows.proofs.texts.NamesTexts as text
use Rattle.grammar_rows.proofs.expression_rows.names.Goals as goal

pub returns-clause-members : goal.returns-clause-members
returns-clause-members c = text.members

pub returns-clause-keys : goal.returns-clause-keys
returns-clause-keys c = text.keys

pub returns-clause-as_names : goal.returns-clause-as_names
returns-clause-as_names c = text.as_names

pub returns-clause-bound : goal.returns-clause-bound
returns-clause-bound c = text.bound

pub returns-clause-no_eval : goal.returns-clause-no_eval
returns-clause-no_eval c = text.no_eval

pub returns-clause-no_function_name : goal.returns-clause-no_function_name
returns-clause-no_function_name c = text.no_function_name

pub returns-clause-no_infinity : goal.returns-clause-no_infinity
returns-clause-no_infinity c = text.no_infinity

pub returns-clause-no_own_name : goal.returns-clause-no_own_name
returns-clause-no_own_name c = text.no_own_name

pub returns-clause-no_callee : goal.returns-clause-no_callee
returns-clause-no_callee c = text.no_callee

pub returns-clause-no_caller : goal.returns-clause-no_caller
returns-clause-no_caller c = text.no_caller

pub returns-clause-no_own_member : goal.returns-clause-no_own_member
returns-clause-no_own_member c = text.no_own_member

pub returns-clause-no_own_key : goal.returns-clause-no_own_key
returns-clause-no_own_key c = text.no_own_key

pub returns-clause-no_eval_item : goal.returns-clause-no_eval_item
returns-clause-no_eval_item c = text.no_eval_item

pub returns-clause-no_function_item : goal.returns-clause-no_function_item
returns-clause-no_function_item c = text.no_function_item

pub returns-clause-no_infinity_item : goal.returns-clause-no_infinity_item
returns-clause-no_infinity_item c = text.no_infinity_item

pub returns-clause-no_arguments_item : goal.returns-clause-no_arguments_item
returns-clause-no_arguments_item c = text.no_arguments_item

pub returns-clause-no_own_item : goal.returns-clause-no_own_item
returns-clause-no_own_item c = text.no_own_item

pub returns-clause-no_eval_function : goal.returns-clause-no_eval_function
returns-clause-no_eval_function c = text.no_eval_function

pub returns-clause-no_arguments_function : goal.returns-clause-no_arguments_function
returns-clause-no_arguments_function c = text.no_arguments_function

pub returns-clause-no_infinity_expression : goal.returns-clause-no_infinity_expression
returns-clause-no_infinity_expression c = text.no_infinity_expression

pub returns-clause-no_arguments_expression : goal.returns-clause-no_arguments_expression
returns-clause-no_arguments_expression c = text.no_arguments_expression

pub returns-clause-no_function_formal : goal.returns-clause-no_function_formal
returns-clause-no_function_formal c = text.no_function_formal

pub returns-clause-no_arguments_formal : goal.returns-clause-no_arguments_formal
returns-clause-no_arguments_formal c = text.no_arguments_formal

pub returns-clause-no_eval_catch : goal.returns-clause-no_eval_catch
returns-clause-no_eval_catch c = text.no_eval_catch

pub returns-clause-no_arguments_catch : goal.returns-clause-no_arguments_catch
returns-clause-no_arguments_catch c = text.no_arguments_catch

pub returns-clause-no_eval_header : goal.returns-clause-no_eval_header
returns-clause-no_eval_header c = text.no_eval_header

pub returns-clause-no_eval_label : goal.returns-clause-no_eval_label
returns-clause-no_eval_label c = text.no_eval_label

pub returns-clause-no_infinity_label : goal.returns-clause-no_infinity_label
returns-clause-no_infinity_label c = text.no_infinity_label
