use Rattle.js_parser.proofs.BrokenLimits.{somewhere}
use Rattle.js_parser.proofs.laws.limits_break_in_a_statement.Goals as goal

pub returns : goal.returns
returns c form limits tokens tree h away = somewhere form limits tokens tree h away
