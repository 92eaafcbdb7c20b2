-- The value of an expression without effects, under a heap. None of what has an effect, stops, or
-- asks for more.
use Rattle.std.specs.Prelude.{pos, Option, Some, None, Ok, Err}
use Rattle.std.specs.Prelude.{◌≡◌, ◌<◌, ◌∷◌}
use Rattle.js_values.specs.declared.number.Num.TheVariants as number
use Rattle.js_values.specs.declared.value.Value.{Value}
use Rattle.js_values.specs.declared.value.Value.TheVariants as value
use Rattle.object_heap.specs.Objects.{Heap}
use Rattle.js_tree.specs.declared.tree.BinaryOp.{BinaryOp}
use Rattle.js_tree.specs.declared.tree.Expr as declared_expr
use Rattle.js_tree.specs.Tree.{Expr}
use Rattle.js_tree.specs.Tree as tree
use Rattle.js_machine.specs.declared.frame.Frame.{Frame}
use Rattle.js_machine.specs.declared.frame.Control.TheVariants as control
use Rattle.js_machine.specs.declared.machine.Machine.{Machine}
use Rattle.js_machine.specs.Globals.{value_of_global}
use Rattle.js_machine.specs.Operated.{Operated, operated}
use Rattle.js_machine.specs.Rest.{Outside, at, in_value, rest}

-- a value that an operator gave
abbrev pub given : Operated → Option Value
given None = None
given (Some (Err stop)) = None
given (Some (Ok v)) = Some v

abbrev pub by_both : BinaryOp → Option Value → Option Value → Option Value
by_both op None w = None
by_both op (Some v) None = None
by_both op (Some v) (Some w) = given (operated op v w)

abbrev pub value_at_once : Expr → Heap → Option Value
value_at_once (tree.Num n) heap = Some (value.Num (number.Whole (pos n)))
value_at_once (tree.Str text) heap = Some (value.Str text)
value_at_once (tree.Truth b) heap = Some (value.Bool b)
value_at_once tree.Null heap = Some value.Null
value_at_once tree.This heap = None
value_at_once (tree.Ident name) heap = value_of_global heap name
value_at_once (tree.Array es) heap = None
value_at_once (tree.Object ps) heap = None
value_at_once (tree.Function f) heap = None
value_at_once (tree.Dot object name) heap = None
value_at_once (tree.Index object key) heap = None
value_at_once (tree.Call callee es) heap = None
value_at_once (tree.New callee es) heap = None
value_at_once (tree.Postfix target op) heap = None
value_at_once (tree.Prefix op operand) heap = None
value_at_once (tree.Binary op left right) heap =
    by_both op (value_at_once left heap) (value_at_once right heap)
value_at_once (tree.And left right) heap = None
value_at_once (tree.Or left right) heap = None
value_at_once (tree.Comma left right) heap = None
value_at_once (tree.Cond test first second) heap = None
value_at_once (tree.Assign op target right) heap = None
value_at_once (tree.Late number) heap = None

-- the expression's value was put on the values, as if it had been begun under any frame and had
-- given it
pub record Pushed (e : declared_expr.Expr) (old new : Machine) : Type 0 where
  pub same : (f : Frame) (out : Outside)
      → rest (control.Expr e) old.clock.1 (f ∷ old.frames) old.values old.heap old.hosts old.beats
      old.clock.0 out ≡ at (in_value f) new out
  pub gives : (out : Outside) → at (rest (control.Expr e)) old out ≡ at (rest control.Give) new out
  pub frames : new.frames ≡ old.frames
  pub left : new.clock.1 < old.clock.1
