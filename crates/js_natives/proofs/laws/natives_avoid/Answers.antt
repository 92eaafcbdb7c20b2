use Rattle.js_natives.proofs.laws.natives_avoid.Goals as goal
use Rattle.js_natives.proofs.Avoiding.{natives_avoid}

pub returns : goal.returns
returns c = natives_avoid
