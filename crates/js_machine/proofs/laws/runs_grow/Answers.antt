use Rattle.js_machine.proofs.laws.runs_grow.Goals as goal
use Rattle.js_machine.proofs.Growing.{runs_grow}

pub returns : goal.returns
returns c = runs_grow
