use Rattle.js_parser.proofs.AcceptedOrFault.{answered}
use Rattle.js_parser.proofs.laws.accepted_or_a_fault.Goals as goal

pub returns : goal.returns
returns c form limits tokens last is = answered form limits tokens last is
