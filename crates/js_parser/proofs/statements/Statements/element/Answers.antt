use Rattle.std.proofs.Common.{sym, ◌∙◌}
use Rattle.js_parser.proofs.ElementSteps.{at_a_function, at_a_statement}
use Rattle.js_parser.proofs.Steps.{after}
use Rattle.js_parser.proofs.statements.Statements.element.Goals as goal

pub returns-then-at_function-clause-reads : goal.returns-then-at_function-clause-reads
returns-then-at_function-clause-reads g c next = after (at_a_function _ _ next _ _ (sym c.at_function.ensures.is ∙ c.if-at_function.true) c.take.ensures.passed) (c.declaration.ensures.reads next)

pub returns-clause-reads : goal.returns-clause-reads
returns-clause-reads g c next = after (at_a_statement _ _ next _ (sym c.at_function.ensures.is ∙ c.if-at_function.false) c.requires.some) (c.nested.ensures.reads next)
