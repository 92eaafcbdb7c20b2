use Rattle.grammar_rows.proofs.AcceptedTexts as worked
use Rattle.grammar_rows.proofs.rows.accepted_texts.Goals as goal

pub returns-clause-three_lines : goal.returns-clause-three_lines
returns-clause-three_lines c = worked.three_lines

pub returns-clause-returned_line : goal.returns-clause-returned_line
returns-clause-returned_line c = worked.returned_line

pub returns-clause-called_line : goal.returns-clause-called_line
returns-clause-called_line c = worked.called_line

pub returns-clause-signs : goal.returns-clause-signs
returns-clause-signs c = worked.signs

pub returns-clause-signs_apart : goal.returns-clause-signs_apart
returns-clause-signs_apart c = worked.signs_apart

pub returns-clause-new_called : goal.returns-clause-new_called
returns-clause-new_called c = worked.new_called

pub returns-clause-literals : goal.returns-clause-literals
returns-clause-literals c = worked.literals

pub returns-clause-in_header : goal.returns-clause-in_header
returns-clause-in_header c = worked.in_header

pub returns-clause-nearest_if : goal.returns-clause-nearest_if
returns-clause-nearest_if c = worked.nearest_if

pub returns-clause-labelled_loop : goal.returns-clause-labelled_loop
returns-clause-labelled_loop c = worked.labelled_loop

pub returns-clause-do_line : goal.returns-clause-do_line
returns-clause-do_line c = worked.do_line

pub returns-clause-clauses : goal.returns-clause-clauses
returns-clause-clauses c = worked.clauses

pub returns-clause-handlers : goal.returns-clause-handlers
returns-clause-handlers c = worked.handlers

pub returns-clause-properties : goal.returns-clause-properties
returns-clause-properties c = worked.properties

pub returns-clause-news : goal.returns-clause-news
returns-clause-news c = worked.news

pub returns-clause-functions : goal.returns-clause-functions
returns-clause-functions c = worked.functions

pub returns-clause-groups : goal.returns-clause-groups
returns-clause-groups c = worked.groups

pub returns-clause-stub : goal.returns-clause-stub
returns-clause-stub c = worked.stub
