use Rattle.js_tree.specs.Plain.{stmt}
use Rattle.js_parser.specs.Contexts as contexts
use Rattle.js_parser.specs.Machine.{statement}
use Rattle.js_parser.specs.View as view
use Rattle.js_parser.proofs.StatementSteps.{moved_room}
use Rattle.js_parser.proofs.statements.Statements.in_loop.Goals as goal

pub returns-clause-reads : goal.returns-clause-reads
returns-clause-reads g c = moved_room stmt (λ room. statement room (contexts.loop (view.context c.args.context.now))) c.inside.ensures c.loop_body.ensures.reads
