use Rattle.std.proofs.Common.{length}
use Rattle.js_parser.proofs.descent.+descent.Given as goal

abbrev pub decreases-expression : goal.decreases-expression
decreases-expression l = length l.tokens.now

abbrev pub decreases-function : goal.decreases-function
decreases-function l = length l.tokens.now

abbrev pub decreases-statement : goal.decreases-statement
decreases-statement l = length l.tokens.now
