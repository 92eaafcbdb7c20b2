use Rattle.js_parser.proofs.OneTree.{reads, reads_unbounded}
use Rattle.js_parser.proofs.laws.scripts_are_read.Goals as goal

pub returns-clause-within_limits : goal.returns-clause-within_limits
returns-clause-within_limits c form tokens tree d limits h i = reads form tokens tree d limits h i

pub returns-clause-without_limits : goal.returns-clause-without_limits
returns-clause-without_limits c form tokens tree d = reads_unbounded form tokens tree d
