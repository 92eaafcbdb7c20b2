use Rattle.std.proofs.lemmas.Result.{err_from_is_err_and}
use Rattle.js_tree.specs.Plain.{stmt}
use Rattle.js_parser.specs.Machine.{statement}
use Rattle.js_parser.proofs.StatementSteps.{unknown, moved}
use Rattle.js_parser.proofs.statements.Statements.in_label.Goals as goal

pub returns-in_err-labelled-clause-reads : goal.returns-in_err-labelled-clause-reads
returns-in_err-labelled-clause-reads g c next = unknown (err_from_is_err_and _ c.from_residual.ensures.1) c.in_err-labelled.ensures

pub returns-clause-reads : goal.returns-clause-reads
returns-clause-reads g c = moved stmt statement c.inside.ensures c.in_ok-labelled.ensures c.nested.ensures.reads
