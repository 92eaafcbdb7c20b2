use Rattle.js_machine.proofs.laws.long_texts_stop.Goals as goal
use Rattle.js_machine.proofs.Lists.{long_texts_stop}

pub returns : goal.returns
returns c = long_texts_stop
