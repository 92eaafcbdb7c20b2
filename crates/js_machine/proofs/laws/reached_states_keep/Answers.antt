use Rattle.js_machine.proofs.laws.reached_states_keep.Goals as goal
use Rattle.js_machine.proofs.fitting.Runs.{nodes_keep}
use Rattle.js_machine.proofs.fitting.Start.{pages_keep, scripts_begin}

pub returns : goal.returns
returns c = record { pages = pages_keep; nodes = nodes_keep; scripts = scripts_begin }
