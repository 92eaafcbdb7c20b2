use Rattle.js_parser.proofs.Levels.{widen}
use Rattle.js_parser.proofs.laws.in_may_be_allowed.Goals as goal

pub returns : goal.returns
returns c form i l u x d = widen d
