-- Expressions (ES3 11): what each node does once its step is taken.
use Rattle.std.specs.Prelude.{if◌then◌else◌, pos, Option, Some, None}
use Rattle.js_values.specs.declared.number.Num.TheVariants as number
use Rattle.js_values.specs.declared.value.Value.TheVariants as value
use Rattle.js_values.specs.Values.{truth_of}
use Rattle.js_tree.specs.declared.tree.BinaryOp.{BinaryOp}
use Rattle.js_tree.specs.Tree.{Expr}
use Rattle.js_tree.specs.Tree as tree
use Rattle.js_machine.specs.Asks.{Program, Tail, Env, AnExpr}
use Rattle.js_machine.specs.Frames.{◌>>=◌, ◌>>◌, gives, value_of}
use Rattle.js_machine.specs.References.{get_value, put_value}
use Rattle.js_machine.specs.Functions.{function_expression, late_function}
use Rattle.js_machine.specs.Primary.{identifier, array_literal, object_literal}
use Rattle.js_machine.specs.Calls.{reference, dot, index, read, call, new}
use Rattle.js_machine.specs.Unary.{postfix_operation, prefix_operation}
use Rattle.js_machine.specs.Operators.{operate}

-- ---- 11.5 to 11.10

abbrev pub binary : BinaryOp → Expr → Expr → Env → Program
binary op left right env = do
  v ← value_of left env
  w ← value_of right env
  r ← operate op v w
  gives r

-- ---- 11.11

-- the left value where it decides, else the right operand
abbrev pub and : Expr → Expr → Env → Program
and left right env = do
  v ← value_of left env
  if truth_of v then Tail (AnExpr right) env else gives v

abbrev pub or : Expr → Expr → Env → Program
or left right env = do
  v ← value_of left env
  if truth_of v then gives v else Tail (AnExpr right) env

-- ---- 11.12

abbrev pub conditional : Expr → Expr → Expr → Env → Program
conditional test first second env = do
  v ← value_of test env
  if truth_of v then Tail (AnExpr first) env else Tail (AnExpr second) env

-- ---- 11.13

abbrev pub assign : Option BinaryOp → Expr → Expr → Env → Program
-- 11.13.1
assign None target right env = do
  it ← reference target env
  v ← value_of right env
  put_value it v
  gives v
-- 11.13.2
assign (Some op) target right env = do
  it ← reference target env
  v ← get_value it
  w ← value_of right env
  r ← operate op v w
  put_value it r
  gives r

-- ---- 11.14

abbrev pub comma : Expr → Expr → Env → Program
comma left right env = do
  v ← value_of left env
  Tail (AnExpr right) env

-- ---- all of them

abbrev pub expression : Expr → Env → Program
-- 11.1.1
expression tree.This env = gives env.this
-- 11.1.2
expression (tree.Ident name) env = identifier name env
-- 11.1.3
expression (tree.Num n) env = gives (value.Num (number.Whole (pos n)))
expression (tree.Str text) env = gives (value.Str text)
expression (tree.Truth b) env = gives (value.Bool b)
expression tree.Null env = gives value.Null
-- 11.1.4
expression (tree.Array es) env = array_literal es env
-- 11.1.5
expression (tree.Object ps) env = object_literal ps env
-- 13
expression (tree.Function f) env = function_expression f env
-- 11.2.1
expression (tree.Dot object name) env = read (dot object name env)
expression (tree.Index object key) env = read (index object key env)
-- 11.2.2
expression (tree.New callee es) env = new callee es env
-- 11.2.3
expression (tree.Call callee es) env = call callee es env
-- 11.3
expression (tree.Postfix target op) env = postfix_operation op target env
-- 11.4
expression (tree.Prefix op operand) env = prefix_operation op operand env
-- 11.5 to 11.10
expression (tree.Binary op left right) env = binary op left right env
-- 11.11
expression (tree.And left right) env = and left right env
expression (tree.Or left right) env = or left right env
-- 11.12
expression (tree.Cond test first second) env = conditional test first second env
-- 11.13
expression (tree.Assign op target right) env = assign op target right env
-- 11.14
expression (tree.Comma left right) env = comma left right env
-- Doloto's own
expression (tree.Late number) env = late_function number env
