use Rattle.js_parser.proofs.ClosedTokens.{closed}
use Rattle.js_parser.proofs.laws.tokens_of_texts_are_closed.Goals as goal

pub returns : goal.returns
returns c text tokens t = closed t
