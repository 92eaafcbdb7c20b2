use Rattle.std.proofs.Common.{sym, ◌∙◌}
use Rattle.js_parser.specs.Reads.{goes_on, is_stuck}
use Rattle.js_parser.proofs.OperandSteps.{late-over, no-entry, an-entry}
use Rattle.js_parser.proofs.late.late_number.Goals as goal

pub returns-in_default-clause-reads : goal.returns-in_default-clause-reads
returns-in_default-clause-reads c form next = is_stuck (late-over next c.args.tokens.now c.in_default.ensures.is)

pub returns-in_default-entry_of-clause-reads : goal.returns-in_default-entry_of-clause-reads
returns-in_default-entry_of-clause-reads c form next = is_stuck (no-entry next c.args.tokens.now c.in-Some.token.now c.in-Some.ensures.is (sym c.in_default-entry_of.is ∙ c.entry_of.ensures))

pub returns-clause-reads : goal.returns-clause-reads
returns-clause-reads c form next = goes_on (an-entry next c.args.tokens.now c.in-Some.token.now c.in-Some-entry_of.entry c.take.new.self c.in-Some.ensures.is (sym c.in-Some-entry_of.is ∙ c.entry_of.ensures) c.take.ensures.passed)
