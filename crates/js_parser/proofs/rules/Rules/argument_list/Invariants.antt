use Rattle.std.proofs.Common.{◌≤◌, length, map}
use Rattle.js_tree.specs.Plain.{expr}
use Rattle.js_tree.specs.Tree.{Exprs}
use Rattle.js_parser.specs.ExpressionLists.{and_exprs}
use Rattle.js_parser.specs.Machine.{To, Goes, argument_list}
use Rattle.js_parser.specs.Rooms.{inside}
use Rattle.js_parser.specs.View as view
use Rattle.js_parser.proofs.rules.Rules.argument_list.Given as goal

abbrev pub invariant-arguments : goal.invariant-arguments
invariant-arguments g l = record {
  reads : (next : To Exprs) → Goes l.self.form (argument_list (inside (view.room l.room)) next l.fn.tokens) (argument_list (inside (view.room l.room)) (λ xs r. next (and_exprs (map expr l.arguments) xs) r) l.tokens);
  shorter : length l.tokens ≤ length l.fn.tokens;
}

abbrev pub decreases-arguments : goal.decreases-arguments
decreases-arguments g l = length l.tokens
