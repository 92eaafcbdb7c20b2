use Rattle.js_tree.specs.Plain.{stmt}
use Rattle.js_parser.specs.StatementKinds.{for_header}
use Rattle.js_parser.specs.View as view
use Rattle.js_parser.proofs.StatementSteps.{moved_room}
use Rattle.js_parser.proofs.statements.Statements.header_inside.Goals as goal

pub returns-clause-reads : goal.returns-clause-reads
returns-clause-reads g c = moved_room stmt (λ room. for_header room (view.context c.args.context.now)) c.inside.ensures c.for_header.ensures.reads
