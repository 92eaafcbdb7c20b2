use Rattle.js_machine.proofs.laws.lists_are_applied.Goals as goal
use Rattle.js_machine.proofs.Lists.{lists_are_applied}

pub returns : goal.returns
returns c = lists_are_applied
