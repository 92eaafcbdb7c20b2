use Rattle.grammar_rows.proofs.texts.SpacesTexts as text
use Rattle.grammar_rows.proofs.printed_rows.spaces.Goals as goal

pub returns-clause-words : goal.returns-clause-words
returns-clause-words c = text.words

pub returns-clause-no_word : goal.returns-clause-no_word
returns-clause-no_word c = text.no_word

pub returns-clause-statements : goal.returns-clause-statements
returns-clause-statements c = text.statements

pub returns-clause-statements_without : goal.returns-clause-statements_without
returns-clause-statements_without c = text.statements_without

pub returns-clause-returns : goal.returns-clause-returns
returns-clause-returns c = text.returns

pub returns-clause-clauses : goal.returns-clause-clauses
returns-clause-clauses c = text.clauses

pub returns-clause-plus : goal.returns-clause-plus
returns-clause-plus c = text.plus

pub returns-clause-minus : goal.returns-clause-minus
returns-clause-minus c = text.minus

pub returns-clause-outside_ascii : goal.returns-clause-outside_ascii
returns-clause-outside_ascii c = text.outside_ascii

pub returns-clause-dollars : goal.returns-clause-dollars
returns-clause-dollars c = text.dollars
