use Rattle.js_parser.proofs.FrontsScripts.{breaks}
use Rattle.js_parser.proofs.laws.stuck_at_the_breaking_token.Goals as goal

pub returns : goal.returns
returns c form limits tokens used rest token e few run = breaks form limits tokens used rest token e few run
