use Rattle.js_parser.proofs.StatementEnds.{in_parentheses}
use Rattle.js_parser.proofs.laws.in_is_in_parentheses.Goals as goal

pub returns : goal.returns
returns c form l u x d is = in_parentheses form l u x d is
