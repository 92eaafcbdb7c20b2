use Rattle.js_parser.proofs.Levels.{lower}
use Rattle.js_parser.proofs.laws.levels_go_down.Goals as goal

pub returns : goal.returns
returns c form i l o u x le d = lower le d
