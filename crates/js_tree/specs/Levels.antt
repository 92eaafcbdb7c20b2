-- The operators between two operands, and the levels of the expressions that operators make.
use Rattle.std.specs.Prelude.{ℕ, Bool, true, false}
use Rattle.js_tree.specs.declared.tree.BinaryOp.{BinaryOp}
use Rattle.js_tree.specs.declared.tree.BinaryOp.TheVariants as b
use Rattle.js_tree.specs.declared.tree.PrefixOp.{PrefixOp}
use Rattle.js_tree.specs.declared.tree.PrefixOp.TheVariants as p
use Rattle.js_tree.specs.Tree.{Expr}
use Rattle.js_tree.specs.Tree

-- an operator between two operands
pub data Operator : Type 0 where
  LogicalOr : Operator
  LogicalAnd : Operator
  Operation : BinaryOp → Operator

abbrev pub joined : Operator → Expr → Expr → Expr
joined LogicalOr x y = Tree.Or x y
joined LogicalAnd x y = Tree.And x y
joined (Operation op) x y = Tree.Binary op x y

-- 11.5 to 11.10
abbrev pub operation_level : BinaryOp → ℕ
operation_level b.BitOr = 6
operation_level b.BitXor = 7
operation_level b.BitAnd = 8
operation_level b.Equal = 9
operation_level b.NotEqual = 9
operation_level b.Same = 9
operation_level b.NotSame = 9
operation_level b.Less = 10
operation_level b.Greater = 10
operation_level b.LessEqual = 10
operation_level b.GreaterEqual = 10
operation_level b.InstanceOf = 10
operation_level b.In = 10
operation_level b.ShiftLeft = 11
operation_level b.ShiftRight = 11
operation_level b.ShiftRightUnsigned = 11
operation_level b.Add = 12
operation_level b.Subtract = 12
operation_level b.Multiply = 13
operation_level b.Divide = 13
operation_level b.Remainder = 13

-- 11.11
abbrev pub level : Operator → ℕ
level LogicalOr = 4
level LogicalAnd = 5
level (Operation op) = operation_level op

abbrev pub is_in : BinaryOp → Bool
is_in b.In = true
is_in _ = false

-- an operation with `in`
abbrev pub is_in_operation : Expr → Bool
is_in_operation (Tree.Binary op left right) = is_in op
is_in_operation _ = false

-- `++` and `--` change their operand, which is a target
abbrev pub changes : PrefixOp → Bool
changes p.Increment = true
changes p.Decrement = true
changes _ = false
