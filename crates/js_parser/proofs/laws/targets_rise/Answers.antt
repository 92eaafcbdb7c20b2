use Rattle.js_parser.proofs.Levels.{raise}
use Rattle.js_parser.proofs.laws.targets_rise.Goals as goal

pub returns : goal.returns
returns c form i l u x d t = raise d t
