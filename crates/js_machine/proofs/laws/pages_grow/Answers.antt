use Rattle.js_machine.proofs.laws.pages_grow.Goals as goal
use Rattle.js_machine.proofs.Pages.{pages_grow}

pub returns : goal.returns
returns c = pages_grow
