-- The printer's table of signs and the parser's are the same.
use Rattle.std.proofs.Common.{◌≡◌, Option, Some, None, refl}
use Rattle.js_tree.specs.declared.tree.BinaryOp.{BinaryOp}
use Rattle.js_tree.specs.declared.tree.BinaryOp.TheVariants as b
use Rattle.js_tree.specs.declared.tree.PrefixOp.{PrefixOp}
use Rattle.js_tree.specs.declared.tree.PrefixOp.TheVariants as p
use Rattle.js_tree.specs.declared.tree.PostfixOp.{PostfixOp}
use Rattle.js_tree.specs.declared.tree.PostfixOp.TheVariants as q
use Rattle.js_parser.specs.Operators as read
use Rattle.js_printer.specs.Signs as shown

pub same-operation : (op : BinaryOp) → shown.operation_sign op ≡ read.operation_sign op
same-operation b.BitOr = refl
same-operation b.BitXor = refl
same-operation b.BitAnd = refl
same-operation b.Equal = refl
same-operation b.NotEqual = refl
same-operation b.Same = refl
same-operation b.NotSame = refl
same-operation b.Less = refl
same-operation b.Greater = refl
same-operation b.LessEqual = refl
same-operation b.GreaterEqual = refl
same-operation b.InstanceOf = refl
same-operation b.In = refl
same-operation b.ShiftLeft = refl
same-operation b.ShiftRight = refl
same-operation b.ShiftRightUnsigned = refl
same-operation b.Add = refl
same-operation b.Subtract = refl
same-operation b.Multiply = refl
same-operation b.Divide = refl
same-operation b.Remainder = refl

pub same-prefix : (op : PrefixOp) → shown.prefix_sign op ≡ read.prefix_sign op
same-prefix p.Delete = refl
same-prefix p.Void = refl
same-prefix p.TypeOf = refl
same-prefix p.Increment = refl
same-prefix p.Decrement = refl
same-prefix p.Plus = refl
same-prefix p.Minus = refl
same-prefix p.BitNot = refl
same-prefix p.Not = refl

pub same-postfix : (op : PostfixOp) → shown.postfix_sign op ≡ read.postfix_sign op
same-postfix q.Increment = refl
same-postfix q.Decrement = refl

pub same-assignment : (op : Option BinaryOp) → shown.assignment op ≡ read.assignment op
same-assignment None = refl
same-assignment (Some b.BitOr) = refl
same-assignment (Some b.BitXor) = refl
same-assignment (Some b.BitAnd) = refl
same-assignment (Some b.Equal) = refl
same-assignment (Some b.NotEqual) = refl
same-assignment (Some b.Same) = refl
same-assignment (Some b.NotSame) = refl
same-assignment (Some b.Less) = refl
same-assignment (Some b.Greater) = refl
same-assignment (Some b.LessEqual) = refl
same-assignment (Some b.GreaterEqual) = refl
same-assignment (Some b.InstanceOf) = refl
same-assignment (Some b.In) = refl
same-assignment (Some b.ShiftLeft) = refl
same-assignment (Some b.ShiftRight) = refl
same-assignment (Some b.ShiftRightUnsigned) = refl
same-assignment (Some b.Add) = refl
same-assignment (Some b.Subtract) = refl
same-assignment (Some b.Multiply) = refl
same-assignment (Some b.Divide) = refl
same-assignment (Some b.Remainder) = refl
