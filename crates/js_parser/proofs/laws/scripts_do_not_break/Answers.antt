use Rattle.js_parser.proofs.BreakingTokens.{not_broken}
use Rattle.js_parser.proofs.laws.scripts_do_not_break.Goals as goal

pub returns : goal.returns
returns c form functions tokens used token tree h b = not_broken form functions tokens used token tree h b
