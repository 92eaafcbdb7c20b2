use Rattle.std.proofs.Common.{◌≤◌, length}
use Rattle.std.specs.Prelude.{map}
use Rattle.js_tree.specs.Plain.{stmt}
use Rattle.js_tree.specs.Tree.{Stmts}
use Rattle.js_parser.specs.Machine.{To, source, Goes}
use Rattle.js_parser.specs.View as view
use Rattle.js_parser.proofs.ListSteps.{onto}
use Rattle.js_parser.proofs.statements.Statements.source.Given as goal

abbrev pub invariant-elements : goal.invariant-elements
invariant-elements g l = record {
  reads : (next : To Stmts) → Goes l.self.rules.form (source (view.room l.room) (view.context l.context) next l.fn.tokens) (source (view.room l.room) (view.context l.context) (λ more o. next (onto (map stmt l.items) more) o) l.tokens);
  shorter : length l.tokens ≤ length l.fn.tokens;
}

abbrev pub decreases-elements : goal.decreases-elements
decreases-elements g l = length l.tokens
