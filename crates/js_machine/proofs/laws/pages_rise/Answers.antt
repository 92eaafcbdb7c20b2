use Rattle.js_machine.proofs.laws.pages_rise.Goals as goal
use Rattle.js_machine.proofs.Pages.{pages_rise}

pub returns : goal.returns
returns c = pages_rise
