-- What of the language the machine runs so far.
use Rattle.std.specs.Prelude.{◌^◌, nat_lt, if◌then◌else◌, Bool, true, false, not, Option, Some, None, is_some}
use Rattle.object_heap.specs.Names.{Name}
use Rattle.js_tree.specs.declared.tree.PrefixOp.{PrefixOp}
use Rattle.js_tree.specs.declared.tree.PrefixOp.TheVariants as prefix
use Rattle.js_tree.specs.Tree.{Expr}
use Rattle.js_tree.specs.Tree.{Stmt}
use Rattle.js_tree.specs.Tree as tree
use Rattle.js_machine.specs.Globals.{name_in}
use Rattle.js_machine.specs.Members.{dot_name, is_member}

-- ---- statements

-- whether a statement of a list is begun
abbrev pub is_begun : Stmt → Bool
is_begun (tree.Declare f) = false
is_begun (tree.Used n) = false
is_begun _ = true

-- ---- what is built

abbrev pub is_name : Expr → Bool
is_name e = is_some (name_in e)

abbrev pub is_dot : Expr → Bool
is_dot e = is_some (dot_name e)

-- a target
abbrev pub is_target : Expr → Bool
is_target e = if is_member e then true else is_name e

-- an operator on a value, `typeof`, `delete`, and `++` and `--` of a target
abbrev pub is_built_prefix : PrefixOp → Expr → Bool
is_built_prefix prefix.Delete operand = true
is_built_prefix prefix.Void operand = true
is_built_prefix prefix.TypeOf operand = true
is_built_prefix prefix.Increment operand = is_target operand
is_built_prefix prefix.Decrement operand = is_target operand
is_built_prefix prefix.Plus operand = true
is_built_prefix prefix.Minus operand = true
is_built_prefix prefix.BitNot operand = true
is_built_prefix prefix.Not operand = true

-- such an operator, where its target is no member
abbrev pub is_plain_prefix : PrefixOp → Expr → Bool
is_plain_prefix prefix.Delete operand = not (is_member operand)
is_plain_prefix prefix.Void operand = true
is_plain_prefix prefix.TypeOf operand = not (is_member operand)
is_plain_prefix prefix.Increment operand = is_name operand
is_plain_prefix prefix.Decrement operand = is_name operand
is_plain_prefix prefix.Plus operand = true
is_plain_prefix prefix.Minus operand = true
is_plain_prefix prefix.BitNot operand = true
is_plain_prefix prefix.Not operand = true

abbrev pub is_built_expression : Expr → Bool
is_built_expression (tree.Num n) = nat_lt n (2 ^ 53)
is_built_expression (tree.Str text) = true
is_built_expression (tree.Truth b) = true
is_built_expression tree.Null = true
is_built_expression tree.This = true
is_built_expression (tree.Ident name) = true
is_built_expression (tree.Array es) = true
is_built_expression (tree.Object ps) = true
is_built_expression (tree.Dot object name) = true
is_built_expression (tree.Index object key) = true
is_built_expression (tree.Postfix target op) = is_target target
is_built_expression (tree.Call callee es) = is_dot callee
is_built_expression (tree.Prefix op operand) = is_built_prefix op operand
is_built_expression (tree.Assign op target right) = is_target target
is_built_expression (tree.Binary op left right) = true
is_built_expression (tree.And left right) = true
is_built_expression (tree.Or left right) = true
is_built_expression (tree.Comma left right) = true
is_built_expression (tree.Cond test first second) = true
is_built_expression _ = false

abbrev pub is_plain_jump : Option Name → Bool
is_plain_jump None = true
is_plain_jump (Some label) = false

abbrev pub is_built_statement : Stmt → Bool
is_built_statement (tree.Block body) = true
is_built_statement tree.Empty = true
is_built_statement (tree.Do e) = true
is_built_statement (tree.If test first second) = true
is_built_statement (tree.DoWhile body test) = true
is_built_statement (tree.While test body) = true
is_built_statement (tree.Variables items) = true
is_built_statement (tree.For first test update body) = true
is_built_statement (tree.ForIn target object body) = true
is_built_statement (tree.Continue label) = is_plain_jump label
is_built_statement (tree.Break label) = is_plain_jump label
is_built_statement _ = false
