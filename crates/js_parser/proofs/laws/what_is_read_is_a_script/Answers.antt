use Rattle.js_parser.proofs.ReadScriptTrees.{read-is-script}
use Rattle.js_parser.proofs.laws.what_is_read_is_a_script.Goals as goal

pub returns : goal.returns
returns c form limits tokens tree h = read-is-script form limits tokens tree h
