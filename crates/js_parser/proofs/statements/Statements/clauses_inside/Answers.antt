use Rattle.std.proofs.lemmas.Result.{err_from_is_err_and}
use Rattle.js_parser.specs.ListViews.{clauses as view_of}
use Rattle.js_parser.specs.Machine.{clauses}
use Rattle.std.proofs.Common.{true}
use Rattle.js_parser.proofs.StatementSteps.{unknown, moved}
use Rattle.js_parser.proofs.statements.Statements.clauses_inside.Goals as goal

pub returns-in_err-clause-clause-reads : goal.returns-in_err-clause-clause-reads
returns-in_err-clause-clause-reads g c next = unknown (err_from_is_err_and _ c.from_residual.ensures.1) c.in_err-clause.ensures

pub returns-clause-reads : goal.returns-clause-reads
returns-clause-reads g c = moved view_of (λ room c. clauses room c true) c.inside.ensures c.in_ok-clause.ensures c.clauses.ensures.reads
