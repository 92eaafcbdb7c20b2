use Rattle.std.proofs.Common.{sym, ◌∙◌}
use Rattle.js_parser.specs.Reads.{goes_on, is_stuck}
use Rattle.js_parser.proofs.Steps.{after}
use Rattle.js_parser.proofs.FormalSteps.{at_a_name, no_formals, no_formals_left}
use Rattle.js_parser.proofs.functions.formals.Goals as goal

pub returns-then-at_name-clause-reads : goal.returns-then-at_name-clause-reads
returns-then-at_name-clause-reads c next = after (at_a_name next _ (sym c.at_name.ensures.is ∙ c.if-at_name.true)) (c.some_formals.ensures.reads next)

pub returns-then-not-at_any-clause-reads : goal.returns-then-not-at_any-clause-reads
returns-then-not-at_any-clause-reads c next = is_stuck (no_formals_left next _ (sym c.at_any.ensures.is ∙ c.if-not-at_any.true))

pub returns-clause-reads : goal.returns-clause-reads
returns-clause-reads c next = goes_on (no_formals _ next _ (sym c.at_name.ensures.is ∙ c.if-at_name.false) (sym c.at_any.ensures.is ∙ c.if-not-at_any.false) c.new.ensures)
