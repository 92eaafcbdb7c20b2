use Rattle.first_grammar.proofs.FirstLaws.{read_script_text, read_script_sound}
use Rattle.first_grammar.proofs.parse.scripts_read_back.Goals as goal

pub returns : goal.returns
returns c = record { read = read_script_text; written = read_script_sound }
