use Rattle.js_parser.specs.View as view
use Rattle.js_parser.proofs.Steps.{after}
use Rattle.js_parser.proofs.OperandSteps.{same-opening}
use Rattle.js_parser.proofs.rules.Rules.opened.Goals as goal

pub returns-in-Function-clause-reads : goal.returns-in-Function-clause-reads
returns-in-Function-clause-reads g c next = after (same-opening (view.room c.args.room) next c.args.tokens.now _ _ c.in-Function.is) (c.behind_function.ensures.reads next)

pub returns-in-Array-clause-reads : goal.returns-in-Array-clause-reads
returns-in-Array-clause-reads g c next = after (same-opening (view.room c.args.room) next c.args.tokens.now _ _ c.in-Array.is) (c.array.ensures.reads next)

pub returns-in-Object-clause-reads : goal.returns-in-Object-clause-reads
returns-in-Object-clause-reads g c next = after (same-opening (view.room c.args.room) next c.args.tokens.now _ _ c.in-Object.is) (c.object.ensures.reads next)

pub returns-in-Parentheses-clause-reads : goal.returns-in-Parentheses-clause-reads
returns-in-Parentheses-clause-reads g c next = after (same-opening (view.room c.args.room) next c.args.tokens.now _ _ c.in-Parentheses.is) (c.parenthesised.ensures.reads next)
