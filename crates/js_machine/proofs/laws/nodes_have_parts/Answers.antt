use Rattle.js_machine.proofs.laws.nodes_have_parts.Goals as goal
use Rattle.js_machine.proofs.Joining.{nodes_have_parts}

pub returns : goal.returns
returns c = nodes_have_parts
