use Rattle.grammar_rows.proofs.texts.SemicolonsTexts as text
use Rattle.grammar_rows.proofs.statement_rows.semicolons.Goals as goal

pub returns-clause-before_a_brace : goal.returns-clause-before_a_brace
returns-clause-before_a_brace c = text.before_a_brace

pub returns-clause-before_the_end : goal.returns-clause-before_the_end
returns-clause-before_the_end c = text.before_the_end

pub returns-clause-on_a_line : goal.returns-clause-on_a_line
returns-clause-on_a_line c = text.on_a_line

pub returns-clause-signs_go_on : goal.returns-clause-signs_go_on
returns-clause-signs_go_on c = text.signs_go_on

pub returns-clause-brackets_go_on : goal.returns-clause-brackets_go_on
returns-clause-brackets_go_on c = text.brackets_go_on

pub returns-clause-operators_go_on : goal.returns-clause-operators_go_on
returns-clause-operators_go_on c = text.operators_go_on

pub returns-clause-changes_do_not : goal.returns-clause-changes_do_not
returns-clause-changes_do_not c = text.changes_do_not

pub returns-clause-behind_a_change : goal.returns-clause-behind_a_change
returns-clause-behind_a_change c = text.behind_a_change

pub returns-clause-signs_behind_a_change : goal.returns-clause-signs_behind_a_change
returns-clause-signs_behind_a_change c = text.signs_behind_a_change

pub returns-clause-behind_a_name : goal.returns-clause-behind_a_name
returns-clause-behind_a_name c = text.behind_a_name

pub returns-clause-names_go_on : goal.returns-clause-names_go_on
returns-clause-names_go_on c = text.names_go_on

pub returns-clause-values_go_on : goal.returns-clause-values_go_on
returns-clause-values_go_on c = text.values_go_on

pub returns-clause-behind_do : goal.returns-clause-behind_do
returns-clause-behind_do c = text.behind_do

pub returns-clause-behind_labels : goal.returns-clause-behind_labels
returns-clause-behind_labels c = text.behind_labels

pub returns-clause-written_on_the_next_line : goal.returns-clause-written_on_the_next_line
returns-clause-written_on_the_next_line c = text.written_on_the_next_line

pub returns-clause-written_behind_labels : goal.returns-clause-written_behind_labels
returns-clause-written_behind_labels c = text.written_behind_labels

pub returns-clause-written_behind_do : goal.returns-clause-written_behind_do
returns-clause-written_behind_do c = text.written_behind_do

pub returns-clause-written_behind_names : goal.returns-clause-written_behind_names
returns-clause-written_behind_names c = text.written_behind_names

pub returns-clause-jumps_end_at_once : goal.returns-clause-jumps_end_at_once
returns-clause-jumps_end_at_once c = text.jumps_end_at_once

pub returns-clause-jumps_have_labels_on_their_line : goal.returns-clause-jumps_have_labels_on_their_line
returns-clause-jumps_have_labels_on_their_line c = text.jumps_have_labels_on_their_line

pub returns-clause-returns_end_at_once : goal.returns-clause-returns_end_at_once
returns-clause-returns_end_at_once c = text.returns_end_at_once

pub returns-clause-returned_on_two_lines : goal.returns-clause-returned_on_two_lines
returns-clause-returned_on_two_lines c = text.returned_on_two_lines

pub returns-clause-jumps_on_their_line : goal.returns-clause-jumps_on_their_line
returns-clause-jumps_on_their_line c = text.jumps_on_their_line

pub returns-clause-do_on_two_lines : goal.returns-clause-do_on_two_lines
returns-clause-do_on_two_lines c = text.do_on_two_lines

pub returns-clause-else_on_the_next_line : goal.returns-clause-else_on_the_next_line
returns-clause-else_on_the_next_line c = text.else_on_the_next_line

pub returns-clause-names_on_a_line : goal.returns-clause-names_on_a_line
returns-clause-names_on_a_line c = text.names_on_a_line

pub returns-clause-numbers_on_a_line : goal.returns-clause-numbers_on_a_line
returns-clause-numbers_on_a_line c = text.numbers_on_a_line

pub returns-clause-items_on_a_line : goal.returns-clause-items_on_a_line
returns-clause-items_on_a_line c = text.items_on_a_line

pub returns-clause-values_on_a_line : goal.returns-clause-values_on_a_line
returns-clause-values_on_a_line c = text.values_on_a_line

pub returns-clause-do_on_a_line : goal.returns-clause-do_on_a_line
returns-clause-do_on_a_line c = text.do_on_a_line

pub returns-clause-do_body_on_a_line : goal.returns-clause-do_body_on_a_line
returns-clause-do_body_on_a_line c = text.do_body_on_a_line

pub returns-clause-then_on_a_line : goal.returns-clause-then_on_a_line
returns-clause-then_on_a_line c = text.then_on_a_line

pub returns-clause-returned_on_a_line : goal.returns-clause-returned_on_a_line
returns-clause-returned_on_a_line c = text.returned_on_a_line

pub returns-clause-thrown_on_a_line : goal.returns-clause-thrown_on_a_line
returns-clause-thrown_on_a_line c = text.thrown_on_a_line

pub returns-clause-labels_on_a_line : goal.returns-clause-labels_on_a_line
returns-clause-labels_on_a_line c = text.labels_on_a_line

pub returns-clause-jumps_on_a_line : goal.returns-clause-jumps_on_a_line
returns-clause-jumps_on_a_line c = text.jumps_on_a_line

pub returns-clause-thrown_on_the_next_line : goal.returns-clause-thrown_on_the_next_line
returns-clause-thrown_on_the_next_line c = text.thrown_on_the_next_line

pub returns-clause-empty_before_a_brace : goal.returns-clause-empty_before_a_brace
returns-clause-empty_before_a_brace c = text.empty_before_a_brace

pub returns-clause-empty_before_else : goal.returns-clause-empty_before_else
returns-clause-empty_before_else c = text.empty_before_else

pub returns-clause-empty_loop_before_a_brace : goal.returns-clause-empty_loop_before_a_brace
returns-clause-empty_loop_before_a_brace c = text.empty_loop_before_a_brace

pub returns-clause-none_in_the_header : goal.returns-clause-none_in_the_header
returns-clause-none_in_the_header c = text.none_in_the_header

pub returns-clause-none_at_the_headers_end : goal.returns-clause-none_at_the_headers_end
returns-clause-none_at_the_headers_end c = text.none_at_the_headers_end

pub returns-clause-no_operand_inserted : goal.returns-clause-no_operand_inserted
returns-clause-no_operand_inserted c = text.no_operand_inserted
