use Rattle.std.proofs.Common.{◌<◌, length, sym, ◌∙◌, arith}
use Rattle.js_parser.proofs.Steps.{after}
use Rattle.js_parser.proofs.ListSteps.{element_is_declared, element_is_statement}
use Rattle.js_parser.proofs.StatementsTake.{always}
use Rattle.js_parser.proofs.statements.Statements.and_element.Goals as goal

pub returns-then-at_function-clause-reads : goal.returns-then-at_function-clause-reads
returns-then-at_function-clause-reads g c next = after (element_is_declared _ _ _ next _ _ (sym c.at_function.ensures.is ∙ c.if-at_function.true) c.take.ensures.passed) (c.and_declared.ensures.reads next)

pub returns-then-at_function-clause-some : goal.returns-then-at_function-clause-some
returns-then-at_function-clause-some g c =
    let fewer : length c.and_declared.new.tokens < length c.args.tokens.now = omega (arith, c.and_declared.ensures.shorter, c.take.ensures.counted, c.at_function.ensures.some c.if-at_function.true) in
    always _ fewer

pub returns-clause-reads : goal.returns-clause-reads
returns-clause-reads g c next = after (element_is_statement _ _ _ next _ (sym c.at_function.ensures.is ∙ c.if-at_function.false)) (c.and_statement.ensures.reads next)
