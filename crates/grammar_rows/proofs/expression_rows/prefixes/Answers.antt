use Rattle.grammar_rows.proofs.texts.PrefixesTexts as text
use Rattle.grammar_rows.proofs.expression_rows.prefixes.Goals as goal

pub returns-clause-words : goal.returns-clause-words
returns-clause-words c = text.words

pub returns-clause-signs : goal.returns-clause-signs
returns-clause-signs c = text.signs

pub returns-clause-changes : goal.returns-clause-changes
returns-clause-changes c = text.changes

pub returns-clause-above_times : goal.returns-clause-above_times
returns-clause-above_times c = text.above_times

pub returns-clause-no_number_behind : goal.returns-clause-no_number_behind
returns-clause-no_number_behind c = text.no_number_behind

pub returns-clause-no_call_behind : goal.returns-clause-no_call_behind
returns-clause-no_call_behind c = text.no_call_behind

pub returns-clause-no_change_behind : goal.returns-clause-no_change_behind
returns-clause-no_change_behind c = text.no_change_behind

pub returns-clause-no_new_behind : goal.returns-clause-no_new_behind
returns-clause-no_new_behind c = text.no_new_behind

pub returns-clause-no_number_before : goal.returns-clause-no_number_before
returns-clause-no_number_before c = text.no_number_before

pub returns-clause-no_call_before : goal.returns-clause-no_call_before
returns-clause-no_call_before c = text.no_call_before

pub returns-clause-no_prefix_before : goal.returns-clause-no_prefix_before
returns-clause-no_prefix_before c = text.no_prefix_before

pub returns-clause-no_change_before : goal.returns-clause-no_change_before
returns-clause-no_change_before c = text.no_change_before

pub returns-clause-not_on_the_next_line : goal.returns-clause-not_on_the_next_line
returns-clause-not_on_the_next_line c = text.not_on_the_next_line
