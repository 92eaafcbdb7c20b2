use Rattle.js_natives.proofs.laws.steps_are_of_indices.Goals as goal
use Rattle.js_natives.proofs.Steps.{of_indices}

pub returns : goal.returns
returns c = of_indices
