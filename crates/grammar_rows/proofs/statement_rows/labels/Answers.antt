use Rattle.grammar_rows.proofs.texts.LabelsTexts as text
use Rattle.grammar_rows.proofs.statement_rows.labels.Goals as goal

pub returns-clause-broken : goal.returns-clause-broken
returns-clause-broken c = text.broken

pub returns-clause-broken_inside : goal.returns-clause-broken_inside
returns-clause-broken_inside c = text.broken_inside

pub returns-clause-broken_in_tries : goal.returns-clause-broken_in_tries
returns-clause-broken_in_tries c = text.broken_in_tries

pub returns-clause-every_label : goal.returns-clause-every_label
returns-clause-every_label c = text.every_label

pub returns-clause-each_loop : goal.returns-clause-each_loop
returns-clause-each_loop c = text.each_loop

pub returns-clause-outer_loops : goal.returns-clause-outer_loops
returns-clause-outer_loops c = text.outer_loops

pub returns-clause-outer_labels : goal.returns-clause-outer_labels
returns-clause-outer_labels c = text.outer_labels

pub returns-clause-beside : goal.returns-clause-beside
returns-clause-beside c = text.beside

pub returns-clause-in_functions : goal.returns-clause-in_functions
returns-clause-in_functions c = text.in_functions

pub returns-clause-no_label : goal.returns-clause-no_label
returns-clause-no_label c = text.no_label

pub returns-clause-no_label_behind : goal.returns-clause-no_label_behind
returns-clause-no_label_behind c = text.no_label_behind

pub returns-clause-no_label_out_of_functions : goal.returns-clause-no_label_out_of_functions
returns-clause-no_label_out_of_functions c = text.no_label_out_of_functions

pub returns-clause-no_loop_out_of_functions : goal.returns-clause-no_loop_out_of_functions
returns-clause-no_loop_out_of_functions c = text.no_loop_out_of_functions

pub returns-clause-block_is_no_loop : goal.returns-clause-block_is_no_loop
returns-clause-block_is_no_loop c = text.block_is_no_loop

pub returns-clause-choice_is_no_loop : goal.returns-clause-choice_is_no_loop
returns-clause-choice_is_no_loop c = text.choice_is_no_loop

pub returns-clause-else_is_no_loop : goal.returns-clause-else_is_no_loop
returns-clause-else_is_no_loop c = text.else_is_no_loop

pub returns-clause-switch_is_no_loop : goal.returns-clause-switch_is_no_loop
returns-clause-switch_is_no_loop c = text.switch_is_no_loop

pub returns-clause-try_is_no_loop : goal.returns-clause-try_is_no_loop
returns-clause-try_is_no_loop c = text.try_is_no_loop

pub returns-clause-catch_is_no_loop : goal.returns-clause-catch_is_no_loop
returns-clause-catch_is_no_loop c = text.catch_is_no_loop

pub returns-clause-finally_is_no_loop : goal.returns-clause-finally_is_no_loop
returns-clause-finally_is_no_loop c = text.finally_is_no_loop

pub returns-clause-inner_block_is_no_loop : goal.returns-clause-inner_block_is_no_loop
returns-clause-inner_block_is_no_loop c = text.inner_block_is_no_loop

pub returns-clause-twice : goal.returns-clause-twice
returns-clause-twice c = text.twice

pub returns-clause-twice_inside : goal.returns-clause-twice_inside
returns-clause-twice_inside c = text.twice_inside

pub returns-clause-twice_behind_another : goal.returns-clause-twice_behind_another
returns-clause-twice_behind_another c = text.twice_behind_another

pub returns-clause-twice_in_a_loop : goal.returns-clause-twice_in_a_loop
returns-clause-twice_in_a_loop c = text.twice_in_a_loop

pub returns-clause-no_number : goal.returns-clause-no_number
returns-clause-no_number c = text.no_number

pub returns-clause-not_in_parentheses : goal.returns-clause-not_in_parentheses
returns-clause-not_in_parentheses c = text.not_in_parentheses
