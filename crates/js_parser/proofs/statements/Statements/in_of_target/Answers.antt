use Rattle.std.proofs.lemmas.Result.{err_from_is_err_and}
use Rattle.js_tree.specs.Plain.{expr, stmt}
use Rattle.js_tree.specs.Tree as tree
use Rattle.js_parser.proofs.Steps.{came, handed, made}
use Rattle.js_parser.proofs.statements.Statements.in_of_target.Goals as goal

pub returns-in_err-iteration-clause-reads : goal.returns-in_err-iteration-clause-reads
returns-in_err-iteration-clause-reads g c next = handed (err_from_is_err_and _ c.from_residual.ensures.1) (c.in_err-iteration.ensures.reads (λ i r. next (tree.ForIn (tree.Target (expr c.args.target)) i.object i.body) r))

pub returns-clause-reads : goal.returns-clause-reads
returns-clause-reads g c next = made stmt next _ _ _ c.for_in_target.ensures (came (c.in_ok-iteration.ensures.reads (λ i r. next (tree.ForIn (tree.Target (expr c.args.target)) i.object i.body) r)))
