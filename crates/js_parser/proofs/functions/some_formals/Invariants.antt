use Rattle.std.proofs.Common.{◌≤◌, ◌≡◌, true, List, ◌++◌, length}
use Rattle.js_tree.specs.Tree.{Name}
use Rattle.js_parser.specs.Machine.{To, Goes}
use Rattle.js_parser.specs.Names.{is_distinct}
use Rattle.js_parser.specs.StatementPieces.{some_formals, more_formals}
use Rattle.js_parser.proofs.functions.some_formals.Given as goal

abbrev pub invariant-formals : goal.invariant-formals
invariant-formals l = record {
  reads : (next : To (List Name)) → Goes l.form (some_formals l.form next l.fn.tokens) (more_formals l.names (λ more o. next (l.names ++ more) o) l.tokens);
  distinct : is_distinct l.names ≡ true;
  shorter : length l.tokens ≤ length l.fn.tokens;
}

abbrev pub decreases-formals : goal.decreases-formals
decreases-formals l = length l.tokens
