use Rattle.grammar_rows.proofs.texts.StatementsTexts as text
use Rattle.grammar_rows.proofs.statement_rows.statements.Goals as goal

pub returns-clause-blocks : goal.returns-clause-blocks
returns-clause-blocks c = text.blocks

pub returns-clause-variables : goal.returns-clause-variables
returns-clause-variables c = text.variables

pub returns-clause-initialisers : goal.returns-clause-initialisers
returns-clause-initialisers c = text.initialisers

pub returns-clause-empty : goal.returns-clause-empty
returns-clause-empty c = text.empty

pub returns-clause-choices : goal.returns-clause-choices
returns-clause-choices c = text.choices

pub returns-clause-loops : goal.returns-clause-loops
returns-clause-loops c = text.loops

pub returns-clause-for_loops : goal.returns-clause-for_loops
returns-clause-for_loops c = text.for_loops

pub returns-clause-for_in_loops : goal.returns-clause-for_in_loops
returns-clause-for_in_loops c = text.for_in_loops

pub returns-clause-for_var_in_loops : goal.returns-clause-for_var_in_loops
returns-clause-for_var_in_loops c = text.for_var_in_loops

pub returns-clause-switches : goal.returns-clause-switches
returns-clause-switches c = text.switches

pub returns-clause-throws : goal.returns-clause-throws
returns-clause-throws c = text.throws

pub returns-clause-tries : goal.returns-clause-tries
returns-clause-tries c = text.tries

pub returns-clause-labels : goal.returns-clause-labels
returns-clause-labels c = text.labels

pub returns-clause-one_default : goal.returns-clause-one_default
returns-clause-one_default c = text.one_default

pub returns-clause-clause_first : goal.returns-clause-clause_first
returns-clause-clause_first c = text.clause_first

pub returns-clause-clause_has_a_colon : goal.returns-clause-clause_has_a_colon
returns-clause-clause_has_a_colon c = text.clause_has_a_colon

pub returns-clause-no_clause_outside : goal.returns-clause-no_clause_outside
returns-clause-no_clause_outside c = text.no_clause_outside

pub returns-clause-try_alone : goal.returns-clause-try_alone
returns-clause-try_alone c = text.try_alone

pub returns-clause-try_needs_a_block : goal.returns-clause-try_needs_a_block
returns-clause-try_needs_a_block c = text.try_needs_a_block

pub returns-clause-catch_needs_a_block : goal.returns-clause-catch_needs_a_block
returns-clause-catch_needs_a_block c = text.catch_needs_a_block

pub returns-clause-finally_needs_a_block : goal.returns-clause-finally_needs_a_block
returns-clause-finally_needs_a_block c = text.finally_needs_a_block

pub returns-clause-catch_has_a_name : goal.returns-clause-catch_has_a_name
returns-clause-catch_has_a_name c = text.catch_has_a_name

pub returns-clause-one_catch : goal.returns-clause-one_catch
returns-clause-one_catch c = text.one_catch

pub returns-clause-else_alone : goal.returns-clause-else_alone
returns-clause-else_alone c = text.else_alone

pub returns-clause-one_else : goal.returns-clause-one_else
returns-clause-one_else c = text.one_else

pub returns-clause-throws_something : goal.returns-clause-throws_something
returns-clause-throws_something c = text.throws_something

pub returns-clause-do_has_a_test : goal.returns-clause-do_has_a_test
returns-clause-do_has_a_test c = text.do_has_a_test

pub returns-clause-header_has_two : goal.returns-clause-header_has_two
returns-clause-header_has_two c = text.header_has_two

pub returns-clause-header_has_no_more : goal.returns-clause-header_has_no_more
returns-clause-header_has_no_more c = text.header_has_no_more

pub returns-clause-no_var_in_next : goal.returns-clause-no_var_in_next
returns-clause-no_var_in_next c = text.no_var_in_next

pub returns-clause-one_name_in : goal.returns-clause-one_name_in
returns-clause-one_name_in c = text.one_name_in

pub returns-clause-no_closing_brace : goal.returns-clause-no_closing_brace
returns-clause-no_closing_brace c = text.no_closing_brace
