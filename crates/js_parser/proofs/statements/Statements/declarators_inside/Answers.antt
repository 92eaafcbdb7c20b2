use Rattle.std.proofs.Common.{true}
use Rattle.js_parser.specs.ListViews.{var_items}
use Rattle.js_parser.specs.Machine.{declarators}
use Rattle.js_parser.proofs.StatementSteps.{moved_room}
use Rattle.js_parser.proofs.statements.Statements.declarators_inside.Goals as goal

pub returns-clause-reads : goal.returns-clause-reads
returns-clause-reads g c = moved_room var_items (λ room. declarators room true) c.inside.ensures c.declarators.ensures.reads
