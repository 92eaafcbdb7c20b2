-- How many steps an expression without effects takes, and 0 of any other; and what a node tells of
-- it.
use Rattle.std.specs.Prelude.{ℕ, zero, suc, ◌≡◌, ◌+◌, ◌⊎◌, nat_le}
use Rattle.std.specs.Prelude.{if◌then◌else◌}
use Rattle.js_tree.specs.declared.tree.BinaryOp.{BinaryOp}
use Rattle.js_tree.specs.declared.tree.BinaryOp.TheVariants as binary
use Rattle.js_tree.specs.declared.tree.PrefixOp.{PrefixOp}
use Rattle.js_tree.specs.declared.tree.PrefixOp.TheVariants as prefix
use Rattle.js_tree.specs.Tree as plain
use Rattle.js_tree.specs.Tree.{Expr}
use Rattle.js_tree.specs.Plain as view
use Rattle.js_code.specs.declared.exprs.ExprNode.{ExprNode}
use Rattle.js_code.specs.declared.exprs.ExprNode.TheVariants as expr

-- an operation takes one step more than its operands
abbrev pub raised : ℕ → ℕ
raised zero = 0
raised (suc a) = suc a + 1

abbrev pub joined : ℕ → ℕ → ℕ
joined zero b = 0
joined (suc a) zero = 0
joined (suc a) (suc b) = suc a + suc b + 1

abbrev pub prefix_cost : PrefixOp → ℕ → ℕ
prefix_cost prefix.Delete n = 0
prefix_cost prefix.Void n = raised n
prefix_cost prefix.TypeOf n = 0
prefix_cost prefix.Increment n = 0
prefix_cost prefix.Decrement n = 0
prefix_cost prefix.Plus n = raised n
prefix_cost prefix.Minus n = raised n
prefix_cost prefix.BitNot n = raised n
prefix_cost prefix.Not n = raised n

abbrev pub binary_cost : BinaryOp → ℕ → ℕ → ℕ
binary_cost binary.BitOr m n = joined m n
binary_cost binary.BitXor m n = joined m n
binary_cost binary.BitAnd m n = joined m n
binary_cost binary.Equal m n = joined m n
binary_cost binary.NotEqual m n = joined m n
binary_cost binary.Same m n = joined m n
binary_cost binary.NotSame m n = joined m n
binary_cost binary.Less m n = joined m n
binary_cost binary.Greater m n = joined m n
binary_cost binary.LessEqual m n = joined m n
binary_cost binary.GreaterEqual m n = joined m n
binary_cost binary.InstanceOf m n = 0
binary_cost binary.In m n = 0
binary_cost binary.ShiftLeft m n = joined m n
binary_cost binary.ShiftRight m n = joined m n
binary_cost binary.ShiftRightUnsigned m n = joined m n
binary_cost binary.Add m n = joined m n
binary_cost binary.Subtract m n = joined m n
binary_cost binary.Multiply m n = joined m n
binary_cost binary.Divide m n = joined m n
binary_cost binary.Remainder m n = joined m n

-- whether a name can be read and its value be operated on without an effect is told elsewhere
abbrev pub cost : Expr → ℕ
cost (plain.Num n) = 1
cost (plain.Str text) = 1
cost (plain.Truth b) = 1
cost plain.Null = 1
cost plain.This = 1
cost (plain.Ident name) = 1
cost (plain.Array es) = 0
cost (plain.Object ps) = 0
cost (plain.Function f) = 0
cost (plain.Dot object name) = 0
cost (plain.Index object key) = 0
cost (plain.Call callee es) = 0
cost (plain.New callee es) = 0
cost (plain.Postfix target op) = 0
cost (plain.Prefix op operand) = prefix_cost op (cost operand)
cost (plain.Binary op left right) = binary_cost op (cost left) (cost right)
cost (plain.And left right) = 0
cost (plain.Or left right) = 0
cost (plain.Comma left right) = 0
cost (plain.Cond test first second) = 0
cost (plain.Assign op target value) = 0
cost (plain.Late k) = 0

-- a node tells of a great cost that it is 0
abbrev pub told : ℕ → ℕ
told n = if nat_le n 1000 then n else 0

-- a number that is 0 or the cost of the expression
abbrev pub IsCost : ℕ → Expr → Type 0
IsCost n e = (n ≡ 0) ⊎ (n ≡ cost e)

-- the number that a node keeps
abbrev pub CostFits : ExprNode → Type 0
CostFits (expr.Num n) = Unit {0}
CostFits (expr.Str text) = Unit {0}
CostFits (expr.Bool b) = Unit {0}
CostFits expr.Null = Unit {0}
CostFits expr.This = Unit {0}
CostFits (expr.Name name) = Unit {0}
CostFits (expr.Array es) = Unit {0}
CostFits (expr.Object ps) = Unit {0}
CostFits (expr.Func f) = Unit {0}
CostFits (expr.Dot object name) = Unit {0}
CostFits (expr.Index object key) = Unit {0}
CostFits (expr.Call callee es) = Unit {0}
CostFits (expr.New callee es) = Unit {0}
CostFits (expr.Postfix e op) = Unit {0}
CostFits (expr.Prefix op c e) = c ≡ told (cost (plain.Prefix op (view.expr e)))
CostFits (expr.Binary op c left right) =
    c ≡ told (cost (plain.Binary op (view.expr left) (view.expr right)))
CostFits (expr.And left right) = Unit {0}
CostFits (expr.Or left right) = Unit {0}
CostFits (expr.Comma left right) = Unit {0}
CostFits (expr.Cond test first second) = Unit {0}
CostFits (expr.Assign op left right) = Unit {0}
CostFits (expr.Late k) = Unit {0}
