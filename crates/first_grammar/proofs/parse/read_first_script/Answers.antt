use Rattle.first_grammar.proofs.Results.{script_sound, script_complete}
use Rattle.first_grammar.proofs.parse.read_first_script.Goals as goal

pub returns-clause-sound : goal.returns-clause-sound
returns-clause-sound c = script_sound c.script_of.result c.args.text.now c.script_of.ensures

pub returns-clause-complete : goal.returns-clause-complete
returns-clause-complete c = script_complete c.script_of.result c.args.text.now c.script_of.ensures
