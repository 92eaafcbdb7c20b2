use Rattle.std.proofs.Common.{◌≤◌, length, map}
use Rattle.js_tree.specs.Tree.{Pairs}
use Rattle.js_parser.specs.ExpressionLists.{pair, and_pairs}
use Rattle.js_parser.specs.Machine.{To, Goes, pairs}
use Rattle.js_parser.specs.Rooms.{inside}
use Rattle.js_parser.specs.View as view
use Rattle.js_parser.proofs.rules.Rules.pairs.Given as goal

abbrev pub invariant-pairs : goal.invariant-pairs
invariant-pairs g l = record {
  reads : (next : To Pairs) → Goes l.self.form (pairs (inside (view.room l.room)) next l.fn.tokens) (pairs (inside (view.room l.room)) (λ ps r. next (and_pairs (map pair l.pairs) ps) r) l.tokens);
  shorter : length l.tokens ≤ length l.fn.tokens;
}

abbrev pub decreases-pairs : goal.decreases-pairs
decreases-pairs g l = length l.tokens
