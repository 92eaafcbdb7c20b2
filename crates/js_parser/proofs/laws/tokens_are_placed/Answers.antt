use Rattle.js_parser.proofs.TokenPlaces.{begun}
use Rattle.js_parser.proofs.laws.tokens_are_placed.Goals as goal

pub returns : goal.returns
returns c form functions used h = begun form functions used h
