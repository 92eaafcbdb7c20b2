use Rattle.js_parser.proofs.BreakingTokens.{one_breaking}
use Rattle.js_parser.proofs.laws.one_breaking_token.Goals as goal

pub returns : goal.returns
returns c form functions tokens used others token other a b = one_breaking form functions tokens used others token other a b
