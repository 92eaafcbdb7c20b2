use Rattle.js_parser.proofs.SingleTokens.{one_tree}
use Rattle.js_parser.proofs.laws.one_tree_of_a_token.Goals as goal

pub returns : goal.returns
returns c form i j l o s x y d e = one_tree d e
