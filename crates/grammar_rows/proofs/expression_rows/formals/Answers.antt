use Rattle.grammar_rows.proofs.texts.FormalsTexts as text
use Rattle.grammar_rows.proofs.expression_rows.formals.Goals as goal

pub returns-clause-none : goal.returns-clause-none
returns-clause-none c = text.none

pub returns-clause-some : goal.returns-clause-some
returns-clause-some c = text.some

pub returns-clause-of_two_functions : goal.returns-clause-of_two_functions
returns-clause-of_two_functions c = text.of_two_functions

pub returns-clause-as_its_name : goal.returns-clause-as_its_name
returns-clause-as_its_name c = text.as_its_name

pub returns-clause-no_comma_ends : goal.returns-clause-no_comma_ends
returns-clause-no_comma_ends c = text.no_comma_ends

pub returns-clause-no_comma_begins : goal.returns-clause-no_comma_begins
returns-clause-no_comma_begins c = text.no_comma_begins

pub returns-clause-no_repeated : goal.returns-clause-no_repeated
returns-clause-no_repeated c = text.no_repeated

pub returns-clause-no_repeated_later : goal.returns-clause-no_repeated_later
returns-clause-no_repeated_later c = text.no_repeated_later

pub returns-clause-no_repeated_in_expression : goal.returns-clause-no_repeated_in_expression
returns-clause-no_repeated_in_expression c = text.no_repeated_in_expression

pub returns-clause-no_number : goal.returns-clause-no_number
returns-clause-no_number c = text.no_number

pub returns-clause-no_body : goal.returns-clause-no_body
returns-clause-no_body c = text.no_body

pub returns-clause-no_name : goal.returns-clause-no_name
returns-clause-no_name c = text.no_name

pub returns-clause-open_body : goal.returns-clause-open_body
returns-clause-open_body c = text.open_body
