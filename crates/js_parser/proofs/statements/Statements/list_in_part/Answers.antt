use Rattle.std.proofs.lemmas.Result.{err_from_is_err_and}
use Rattle.js_tree.specs.Plain.{body}
use Rattle.js_parser.specs.Machine.{list}
use Rattle.js_parser.proofs.StatementSteps.{unknown, moved}
use Rattle.js_parser.proofs.statements.Statements.list_in_part.Goals as goal

pub returns-in_err-part-clause-reads : goal.returns-in_err-part-clause-reads
returns-in_err-part-clause-reads g c next = unknown (err_from_is_err_and _ c.from_residual.ensures.1) c.in_err-part.ensures

pub returns-clause-reads : goal.returns-clause-reads
returns-clause-reads g c = moved body list c.inside.ensures c.in_ok-part.ensures c.list.ensures.reads
