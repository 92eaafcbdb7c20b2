-- What is left of a run in a statement that is begun, and what an expression is begun as.
use Rattle.std.proofs.Common.{◌≡◌, Bool, true, false, refl}
use Rattle.std.specs.Prelude.{not, if◌then◌else◌}
use Rattle.js_tree.specs.declared.tree.PrefixOp.{PrefixOp}
use Rattle.js_tree.specs.declared.tree.PrefixOp.TheVariants as prefix
use Rattle.js_tree.specs.Tree as tree
use Rattle.js_machine.specs.Built.{is_built_prefix, is_name, is_plain_prefix, is_target}
use Rattle.js_machine.specs.Members.{is_member, is_on_target}
pub use Rattle.js_machine.proofs.LoopLaws.{in_while, in_do_while, in_for, in_for_first}
pub use Rattle.js_machine.proofs.ForInLaws.{in_for_in_statement}
pub use Rattle.js_machine.proofs.StatementLaws.{in_empty, in_if}
pub use Rattle.js_machine.proofs.StatementLaws.{in_break_statement, in_continue_statement}
pub use Rattle.js_machine.proofs.VariableLaws.{in_var, in_for_var}

pub ruleset statements_begun = (in_while, in_do_while, in_for, in_for_first, in_empty, in_if, in_break_statement, in_continue_statement, in_var, in_for_var, in_for_in_statement)

-- ---- a target that is no member is a name

pub name_target : (t : tree.Expr) → is_target t ≡ true → is_member t ≡ false → is_name t ≡ true
name_target t h g = by (is_member t) (is_name t) h g
  where
    by : (b c : Bool) → (if b then true else c) ≡ true → b ≡ false → c ≡ true
    by true c h g = cc
    by false c h g = h

no_member : (b : Bool) → b ≡ false → not b ≡ true
no_member true h = cc
no_member false h = refl

pub plain_prefix : (op : PrefixOp) (t : tree.Expr) → is_built_prefix op t ≡ true → (if is_on_target op then is_member t else false) ≡ false → is_plain_prefix op t ≡ true
plain_prefix prefix.Delete t h g = no_member (is_member t) g
plain_prefix prefix.Void t h g = refl
plain_prefix prefix.TypeOf t h g = no_member (is_member t) g
plain_prefix prefix.Increment t h g = name_target t h g
plain_prefix prefix.Decrement t h g = name_target t h g
plain_prefix prefix.Plus t h g = refl
plain_prefix prefix.Minus t h g = refl
plain_prefix prefix.BitNot t h g = refl
plain_prefix prefix.Not t h g = refl

pub ruleset expressions_begun = (name_target, plain_prefix)
