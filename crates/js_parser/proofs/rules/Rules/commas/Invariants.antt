use Rattle.std.proofs.Common.{◌≤◌, length}
use Rattle.js_tree.specs.Plain.{expr}
use Rattle.js_tree.specs.Tree.{Expr}
use Rattle.js_parser.specs.Machine.{To, comma_tail, Goes}
use Rattle.js_parser.specs.View as view
use Rattle.js_parser.proofs.rules.Rules.commas.Given as goal

abbrev pub invariant-operators : goal.invariant-operators
invariant-operators g l = record {
  reads : (next : To Expr) → Goes l.self.form (comma_tail (view.room l.room) l.with_in (expr l.fn.first) next l.fn.tokens) (comma_tail (view.room l.room) l.with_in (expr l.left) next l.tokens);
  shorter : length l.tokens ≤ length l.fn.tokens;
}

abbrev pub decreases-operators : goal.decreases-operators
decreases-operators g l = length l.tokens
