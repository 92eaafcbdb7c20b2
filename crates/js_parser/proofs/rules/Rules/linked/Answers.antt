use Rattle.js_tree.specs.Plain.{expr}
use Rattle.js_parser.specs.View as view
use Rattle.js_parser.proofs.Steps.{after}
use Rattle.js_parser.proofs.OperandSteps.{same-link}
use Rattle.js_parser.proofs.rules.Rules.linked.Goals as goal

pub returns-in-Dot-clause-reads : goal.returns-in-Dot-clause-reads
returns-in-Dot-clause-reads g c next = after (same-link (view.room c.args.room) (expr c.args.operand) next c.args.tokens.now _ _ c.in-Dot.is) (c.dot.ensures.reads next)

pub returns-in-Index-clause-reads : goal.returns-in-Index-clause-reads
returns-in-Index-clause-reads g c next = after (same-link (view.room c.args.room) (expr c.args.operand) next c.args.tokens.now _ _ c.in-Index.is) (c.index.ensures.reads next)

pub returns-in-Call-clause-reads : goal.returns-in-Call-clause-reads
returns-in-Call-clause-reads g c next = after (same-link (view.room c.args.room) (expr c.args.operand) next c.args.tokens.now _ _ c.in-Call.is) (c.call.ensures.reads next)
