use Rattle.std.proofs.Common.{sym, subst}
use Rattle.js_parser.specs.Machine as rule
use Rattle.js_parser.specs.Reads.{goes_on, is_stuck}
use Rattle.js_parser.proofs.Steps.{passed, not_passed}
use Rattle.js_parser.proofs.tokens.Tokens.expect.Goals as goal

pub returns-then-not-here-clause-reads : goal.returns-then-not-here-clause-reads
returns-then-not-here-clause-reads c form test h next = is_stuck (not_passed test c.args.here c.args.self.now c.if-not-here.true h next)

pub returns-clause-reads : goal.returns-clause-reads
returns-clause-reads c form test h next = goes_on (subst (λ ts. rule.Goes form (rule.expect test next c.args.self.now) (next ts)) (sym c.take.ensures.passed) (passed test c.args.here c.args.self.now c.if-not-here.false h next))
