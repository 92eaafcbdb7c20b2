use Rattle.grammar_rows.proofs.RefusedTexts as worked
use Rattle.grammar_rows.proofs.rows.told_tokens.Goals as goal

pub returns-clause-with_is : goal.returns-clause-with_is
returns-clause-with_is c = worked.told_with

pub returns-clause-debugger_is : goal.returns-clause-debugger_is
returns-clause-debugger_is c = worked.told_debugger

pub returns-clause-slash_is : goal.returns-clause-slash_is
returns-clause-slash_is c = worked.told_slash

pub returns-clause-slash_assign_is : goal.returns-clause-slash_assign_is
returns-clause-slash_assign_is c = worked.told_slash_assign

pub returns-clause-own_text_is : goal.returns-clause-own_text_is
returns-clause-own_text_is c = worked.told_own_text

pub returns-clause-own_is : goal.returns-clause-own_is
returns-clause-own_is c = worked.told_own

pub returns-clause-eval_is : goal.returns-clause-eval_is
returns-clause-eval_is c = worked.told_eval

pub returns-clause-function_name_is : goal.returns-clause-function_name_is
returns-clause-function_name_is c = worked.told_function_name

pub returns-clause-infinity_is : goal.returns-clause-infinity_is
returns-clause-infinity_is c = worked.told_infinity

pub returns-clause-arguments_is : goal.returns-clause-arguments_is
returns-clause-arguments_is c = worked.told_arguments

pub returns-clause-callee_is : goal.returns-clause-callee_is
returns-clause-callee_is c = worked.told_callee

pub returns-clause-caller_is : goal.returns-clause-caller_is
returns-clause-caller_is c = worked.told_caller

pub returns-clause-function_is : goal.returns-clause-function_is
returns-clause-function_is c = worked.told_function

pub returns-clause-earlier_formal_is : goal.returns-clause-earlier_formal_is
returns-clause-earlier_formal_is c = worked.told_earlier_formal

pub returns-clause-later_word_is : goal.returns-clause-later_word_is
returns-clause-later_word_is c = worked.told_later_word

pub returns-clause-other_name_is : goal.returns-clause-other_name_is
returns-clause-other_name_is c = worked.told_other_name

pub returns-clause-end_is : goal.returns-clause-end_is
returns-clause-end_is c = worked.told_end
