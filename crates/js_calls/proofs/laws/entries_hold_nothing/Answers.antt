use Rattle.js_calls.proofs.laws.entries_hold_nothing.Goals as goal
use Rattle.js_calls.proofs.AfterEntry.{hold_nothing}

pub returns : goal.returns
returns c = hold_nothing
