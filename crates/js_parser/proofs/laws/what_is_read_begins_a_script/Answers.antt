use Rattle.js_parser.proofs.FrontsScripts.{begins}
use Rattle.js_parser.proofs.laws.what_is_read_begins_a_script.Goals as goal

pub returns : goal.returns
returns c form limits tokens used rest e few run = begins form limits tokens used rest e few run
