use Rattle.js_calls.proofs.laws.entries_keep_order.Goals as goal
use Rattle.js_calls.proofs.AfterEntry.{keep_order}

pub returns : goal.returns
returns c = keep_order
