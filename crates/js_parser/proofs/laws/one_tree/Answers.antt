use Rattle.js_parser.proofs.OneTree.{one_tree}
use Rattle.js_parser.proofs.laws.one_tree.Goals as goal

pub returns : goal.returns
returns c form tokens tree other d e = one_tree form tokens tree other d e
