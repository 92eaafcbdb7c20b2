use Rattle.js_parser.proofs.NoFault.{no_fault}
use Rattle.js_parser.proofs.laws.accepted_has_no_fault.Goals as goal

pub returns : goal.returns
returns c form limits tokens tree told a f = no_fault form limits tokens tree told a f
