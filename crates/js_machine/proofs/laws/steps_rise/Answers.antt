use Rattle.js_machine.proofs.laws.steps_rise.Goals as goal
use Rattle.js_machine.proofs.Rising.{steps_rise}

pub returns : goal.returns
returns c = steps_rise
