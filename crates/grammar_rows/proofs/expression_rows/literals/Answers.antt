use Rattle.grammar_rows.proofs.texts.LiteralsTexts as text
use Rattle.grammar_rows.proofs.expression_rows.literals.Goals as goal

pub returns-clause-primaries : goal.returns-clause-primaries
returns-clause-primaries c = text.primaries

pub returns-clause-arrays : goal.returns-clause-arrays
returns-clause-arrays c = text.arrays

pub returns-clause-objects : goal.returns-clause-objects
returns-clause-objects c = text.objects

pub returns-clause-elements : goal.returns-clause-elements
returns-clause-elements c = text.elements

pub returns-clause-array_ends : goal.returns-clause-array_ends
returns-clause-array_ends c = text.array_ends

pub returns-clause-object_begins : goal.returns-clause-object_begins
returns-clause-object_begins c = text.object_begins

pub returns-clause-one_comma_ends : goal.returns-clause-one_comma_ends
returns-clause-one_comma_ends c = text.one_comma_ends

pub returns-clause-key_is_no_word : goal.returns-clause-key_is_no_word
returns-clause-key_is_no_word c = text.key_is_no_word

pub returns-clause-key_has_a_value : goal.returns-clause-key_has_a_value
returns-clause-key_has_a_value c = text.key_has_a_value

pub returns-clause-key_is_no_list : goal.returns-clause-key_is_no_list
returns-clause-key_is_no_list c = text.key_is_no_list
