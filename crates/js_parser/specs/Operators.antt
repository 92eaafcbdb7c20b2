-- The tokens of operators, and where `in` may operate.
use Rattle.std.specs.Prelude.{Bool, true, false, Option, Some, None}
use Rattle.js_lexer.specs.declared.mark.Mark.{Mark}
use Rattle.js_lexer.specs.declared.mark.Mark.TheVariants as m
use Rattle.js_lexer.specs.declared.word.Word.TheVariants as w
use Rattle.js_lexer.specs.declared.token.TokenKind.{TokenKind}
use Rattle.js_lexer.specs.declared.token.TokenKind.TheVariants as k
use Rattle.js_tree.specs.declared.tree.BinaryOp.{BinaryOp}
use Rattle.js_tree.specs.declared.tree.BinaryOp.TheVariants as b
use Rattle.js_tree.specs.declared.tree.PrefixOp.{PrefixOp}
use Rattle.js_tree.specs.declared.tree.PrefixOp.TheVariants as p
use Rattle.js_tree.specs.declared.tree.PostfixOp.{PostfixOp}
use Rattle.js_tree.specs.declared.tree.PostfixOp.TheVariants as q
use Rattle.js_tree.specs.Levels.{Operator, LogicalOr, LogicalAnd, Operation}
use Rattle.js_tree.specs.Tree.{Expr}
use Rattle.js_tree.specs.Tree

abbrev pub operation_sign : BinaryOp → TokenKind
operation_sign b.BitOr = k.Mark m.BitOr
operation_sign b.BitXor = k.Mark m.BitXor
operation_sign b.BitAnd = k.Mark m.BitAnd
operation_sign b.Equal = k.Mark m.Equal
operation_sign b.NotEqual = k.Mark m.NotEqual
operation_sign b.Same = k.Mark m.StrictEqual
operation_sign b.NotSame = k.Mark m.StrictNotEqual
operation_sign b.Less = k.Mark m.Less
operation_sign b.Greater = k.Mark m.Greater
operation_sign b.LessEqual = k.Mark m.LessEqual
operation_sign b.GreaterEqual = k.Mark m.GreaterEqual
operation_sign b.InstanceOf = k.Word w.InstanceOf
operation_sign b.In = k.Word w.In
operation_sign b.ShiftLeft = k.Mark m.ShiftLeft
operation_sign b.ShiftRight = k.Mark m.ShiftRight
operation_sign b.ShiftRightUnsigned = k.Mark m.ShiftRightUnsigned
operation_sign b.Add = k.Mark m.Plus
operation_sign b.Subtract = k.Mark m.Minus
operation_sign b.Multiply = k.Mark m.Times
operation_sign b.Divide = k.Mark m.Slash
operation_sign b.Remainder = k.Mark m.Percent

abbrev pub sign : Operator → TokenKind
sign LogicalOr = k.Mark m.Or
sign LogicalAnd = k.Mark m.And
sign (Operation op) = operation_sign op

-- the operator `in` stands only where it may
abbrev pub may_operate : Bool → Operator → Bool
may_operate with_in LogicalOr = true
may_operate with_in LogicalAnd = true
may_operate with_in (Operation b.In) = with_in
may_operate with_in (Operation _) = true

-- 11.4
abbrev pub prefix_sign : PrefixOp → TokenKind
prefix_sign p.Delete = k.Word w.Delete
prefix_sign p.Void = k.Word w.Void
prefix_sign p.TypeOf = k.Word w.TypeOf
prefix_sign p.Increment = k.Mark m.PlusPlus
prefix_sign p.Decrement = k.Mark m.MinusMinus
prefix_sign p.Plus = k.Mark m.Plus
prefix_sign p.Minus = k.Mark m.Minus
prefix_sign p.BitNot = k.Mark m.BitNot
prefix_sign p.Not = k.Mark m.Not

-- 11.3
abbrev pub postfix_sign : PostfixOp → TokenKind
postfix_sign q.Increment = k.Mark m.PlusPlus
postfix_sign q.Decrement = k.Mark m.MinusMinus

-- 11.13: `=`, and the operators that are joined with it
abbrev pub assignment : Option BinaryOp → Option Mark
assignment None = Some m.Assign
assignment (Some b.Multiply) = Some m.TimesAssign
assignment (Some b.Divide) = Some m.SlashAssign
assignment (Some b.Remainder) = Some m.PercentAssign
assignment (Some b.Add) = Some m.PlusAssign
assignment (Some b.Subtract) = Some m.MinusAssign
assignment (Some b.ShiftLeft) = Some m.ShiftLeftAssign
assignment (Some b.ShiftRight) = Some m.ShiftRightAssign
assignment (Some b.ShiftRightUnsigned) = Some m.ShiftRightUnsignedAssign
assignment (Some b.BitAnd) = Some m.BitAndAssign
assignment (Some b.BitXor) = Some m.BitXorAssign
assignment (Some b.BitOr) = Some m.BitOrAssign
assignment (Some _) = None

-- what an assignment, `++` and `--` write to: a name, a dot or an index
abbrev pub is_target : Expr → Bool
is_target (Tree.Ident name) = true
is_target (Tree.Dot object name) = true
is_target (Tree.Index object key) = true
is_target _ = false
