use Rattle.js_parser.proofs.Counts.{functions_counted}
use Rattle.js_parser.proofs.laws.functions_are_counted.Goals as goal

pub returns : goal.returns
returns c form tokens tree d = functions_counted form tokens tree d
