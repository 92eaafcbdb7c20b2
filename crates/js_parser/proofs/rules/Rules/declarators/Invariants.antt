use Rattle.std.proofs.Common.{◌≤◌, length}
use Rattle.js_tree.specs.Tree.{VarItems}
use Rattle.js_parser.specs.ListViews.{var_parts}
use Rattle.js_parser.specs.Machine.{To, declarators, Goes}
use Rattle.js_parser.specs.StatementPieces.{more_declarators}
use Rattle.js_parser.specs.View as view
use Rattle.js_parser.proofs.DeclaratorSteps.{onto}
use Rattle.js_parser.proofs.rules.Rules.declarators.Given as goal

abbrev pub invariant-declarators : goal.invariant-declarators
invariant-declarators g l = record {
  reads : (next : To VarItems) → Goes l.self.form (declarators (view.room l.room) l.with_in next l.fn.tokens) (more_declarators (view.room l.room) l.with_in (λ items r. next (onto (var_parts l.items) items) r) l.tokens);
  shorter : length l.tokens ≤ length l.fn.tokens;
}

abbrev pub decreases-declarators : goal.decreases-declarators
decreases-declarators g l = length l.tokens
