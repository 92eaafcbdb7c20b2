use Rattle.grammar_rows.proofs.texts.TokensWrittenTexts as text
use Rattle.grammar_rows.proofs.printed_rows.tokens_written.Goals as goal

pub returns-clause-numbers : goal.returns-clause-numbers
returns-clause-numbers c = text.numbers

pub returns-clause-strings : goal.returns-clause-strings
returns-clause-strings c = text.strings

pub returns-clause-keys : goal.returns-clause-keys
returns-clause-keys c = text.keys

pub returns-clause-holes : goal.returns-clause-holes
returns-clause-holes c = text.holes

pub returns-clause-jumps : goal.returns-clause-jumps
returns-clause-jumps c = text.jumps
