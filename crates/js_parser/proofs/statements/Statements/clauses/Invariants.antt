use Rattle.std.proofs.Common.{◌≤◌, true, length}
use Rattle.js_tree.specs.Tree.{Cases}
use Rattle.js_parser.specs.ListViews.{clause_parts}
use Rattle.js_parser.specs.Machine.{To, clauses, Goes}
use Rattle.js_parser.specs.View as view
use Rattle.js_parser.proofs.ClauseSteps.{onto}
use Rattle.js_parser.proofs.statements.Statements.clauses.Given as goal

abbrev pub invariant-clauses : goal.invariant-clauses
invariant-clauses g l = record {
  reads : (next : To Cases) → Goes l.self.rules.form (clauses (view.room l.room) (view.context l.context) true next l.fn.tokens) (clauses (view.room l.room) (view.context l.context) l.default_may_come (λ more o. next (onto (clause_parts l.items) more) o) l.tokens);
  shorter : length l.tokens ≤ length l.fn.tokens;
}

abbrev pub decreases-clauses : goal.decreases-clauses
decreases-clauses g l = length l.tokens
