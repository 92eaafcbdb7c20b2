use Rattle.std.proofs.Common.{◌≤◌, length, map}
use Rattle.js_tree.specs.Tree.{Elements}
use Rattle.js_parser.specs.ExpressionLists.{element, and_elements}
use Rattle.js_parser.specs.Machine.{To, Goes, elements}
use Rattle.js_parser.specs.Rooms.{inside}
use Rattle.js_parser.specs.View as view
use Rattle.js_parser.proofs.rules.Rules.elements.Given as goal

abbrev pub invariant-elements : goal.invariant-elements
invariant-elements g l = record {
  reads : (next : To Elements) → Goes l.self.form (elements (inside (view.room l.room)) next l.fn.tokens) (elements (inside (view.room l.room)) (λ es r. next (and_elements (map element l.elements) es) r) l.tokens);
  shorter : length l.tokens ≤ length l.fn.tokens;
}

abbrev pub decreases-elements : goal.decreases-elements
decreases-elements g l = length l.tokens
