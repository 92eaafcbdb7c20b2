use Rattle.std.proofs.Common.{◌≤◌, length}
use Rattle.js_tree.specs.Plain.{expr}
use Rattle.js_tree.specs.Tree.{Expr}
use Rattle.js_parser.specs.Machine as rule
use Rattle.js_parser.specs.Machine.{To, Goes}
use Rattle.js_parser.specs.View as view
use Rattle.js_parser.proofs.rules.Rules.links.Given as goal

abbrev pub invariant-links : goal.invariant-links
invariant-links g l = record {
  reads : (next : To Expr) → Goes l.self.form (rule.links (view.room l.room) l.with_calls (expr l.fn.first) next l.fn.tokens) (rule.links (view.room l.room) l.with_calls (expr l.operand) next l.tokens);
  shorter : length l.tokens ≤ length l.fn.tokens;
}

abbrev pub decreases-links : goal.decreases-links
decreases-links g l = length l.tokens
