use Rattle.js_parser.specs.Reads.{is_stuck}
use Rattle.js_parser.specs.View as view
use Rattle.js_parser.proofs.Steps.{after}
use Rattle.js_parser.proofs.OperandSteps.{late-in-source, late-in-written}
use Rattle.js_parser.proofs.late.late_in.Goals as goal

pub returns-in-Source-clause-reads : goal.returns-in-Source-clause-reads
returns-in-Source-clause-reads c any next = is_stuck (late-in-source (view.room c.args.room) next c.args.tokens.now c.args.form c.in-Source.is)

pub returns-in-Written-clause-reads : goal.returns-in-Written-clause-reads
returns-in-Written-clause-reads c any next = after (late-in-written (view.room c.args.room) next c.args.tokens.now c.args.form c.take.new.self c.in-Written.is c.take.ensures.passed) (c.late.ensures.reads _ next)
