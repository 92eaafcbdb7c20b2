use Rattle.grammar_rows.proofs.AcceptedTexts as worked
use Rattle.grammar_rows.proofs.rows.written_parts.Goals as goal

pub returns-clause-function_text : goal.returns-clause-function_text
returns-clause-function_text c = worked.entry_function

pub returns-clause-of_body : goal.returns-clause-of_body
returns-clause-of_body c = worked.entry_body

pub returns-clause-of_entry : goal.returns-clause-of_entry
returns-clause-of_entry c = worked.entry
