use Rattle.js_parser.proofs.StatementEnds.{nearest}
use Rattle.js_parser.proofs.laws.else_is_of_the_nearest_if.Goals as goal

pub returns : goal.returns
returns c form context u next s d is = nearest d is
