-- Postfix and unary operators (ES3 11.3, 11.4).
use Rattle.std.specs.Prelude.{ℕ, Bool, true, not, pos, neg_ℤ, ◌-ℤ◌, List, Result}
use Rattle.js_values.specs.declared.number.Num.{Num}
use Rattle.js_values.specs.declared.number.Num.TheVariants as number
use Rattle.js_values.specs.declared.reason.Reason.{Reason}
use Rattle.js_values.specs.declared.value.Value.{Value}
use Rattle.js_values.specs.declared.value.Value.TheVariants as value
use Rattle.js_values.specs.Integers.{int32_of}
use Rattle.js_values.specs.Numbers.{sum_of, difference_of, negation_of}
use Rattle.js_values.specs.Values.{truth_of, type_of}
use Rattle.object_heap.specs.Names.{Name, is_same_name, length_name}
use Rattle.js_tree.specs.declared.tree.PostfixOp.{PostfixOp}
use Rattle.js_tree.specs.declared.tree.PostfixOp.TheVariants as postfix
use Rattle.js_tree.specs.declared.tree.PrefixOp.{PrefixOp}
use Rattle.js_tree.specs.declared.tree.PrefixOp.TheVariants as prefix
use Rattle.js_tree.specs.Tree.{Expr}
use Rattle.js_machine.specs.Asks.{Program, Env, Delete, KindOf}
use Rattle.js_machine.specs.Frames.{Asks, ◌>>=◌, ◌>>◌, gives, value_of}
use Rattle.js_machine.specs.References.{Reference, NoReference, InScope, OnBase, Unbound}
use Rattle.js_machine.specs.References.{get_value, put_value}
use Rattle.js_machine.specs.Conversions.{or_stop, to_number}
use Rattle.js_machine.specs.Kinds.{is_function}
use Rattle.js_machine.specs.Calls.{reference}

-- ---- 11.3.1, 11.3.2, 11.4.4 and 11.4.5: a target changes by one

abbrev pub one : Num
one = number.Whole (pos 1)

-- the number before and the number after
abbrev pub changed : (Num → Num → Result Num Reason) → Expr → Env → (Num → Num → Program) → Program
changed compute target env k = do
  it ← reference target env
  old ← get_value it
  before ← to_number old
  after ← or_stop (compute before one)
  put_value it (value.Num after)
  k before after

abbrev pub gives_before : Num → Num → Program
gives_before before after = gives (value.Num before)

abbrev pub gives_after : Num → Num → Program
gives_after before after = gives (value.Num after)

abbrev pub postfix_operation : PostfixOp → Expr → Env → Program
postfix_operation postfix.Increment target env = changed sum_of target env gives_before
postfix_operation postfix.Decrement target env = changed difference_of target env gives_before

-- ---- 11.4.1 delete

-- 8.6.2.5; the `length` of a text is fixed (15.5.5.1), and a primitive value has no other property
abbrev pub delete_of_text : Name → Asks Bool
delete_of_text name k = k (not (is_same_name name length_name))

abbrev pub delete_on : Value → Name → Asks Bool
delete_on (value.Object o) name k = Delete o.0 name k
delete_on (value.Str text) name k = delete_of_text name k
delete_on base name k = k true

-- the names of scopes are fixed (10.1.3, 10.1.6, 12.14, 13)
abbrev pub delete_reference : Reference → Asks Bool
delete_reference (NoReference v) k = k true
delete_reference (InScope chain name) k = k (not true)
delete_reference (OnBase base name) k = delete_on base name k
delete_reference (Unbound name) k = k true

-- ---- 11.4.3 typeof

abbrev pub type_name : Value → Asks (List ℕ)
type_name v k = do
  kind ← KindOf v
  k (type_of (is_function kind) v)

-- of a name that is nowhere bound it is `undefined`
abbrev pub type_of_reference : Reference → Asks (List ℕ)
type_of_reference (Unbound name) k = type_name value.Undefined k
type_of_reference it k = do
  v ← get_value it
  type_name v k

-- ---- on numbers

abbrev pub number_operation : (Num → Num) → Expr → Env → Program
number_operation compute operand env = do
  v ← value_of operand env
  n ← to_number v
  gives (value.Num (compute n))

abbrev pub as_it_is : Num → Num
as_it_is n = n

-- 11.4.8: each bit of ToInt32 is changed, which is -1 - n
abbrev pub complement : Num → Num
complement n = number.Whole (neg_ℤ (pos 1) -ℤ int32_of n)

-- ---- all of them

abbrev pub prefix_operation : PrefixOp → Expr → Env → Program
-- 11.4.1
prefix_operation prefix.Delete operand env = do
  it ← reference operand env
  b ← delete_reference it
  gives (value.Bool b)
-- 11.4.2
prefix_operation prefix.Void operand env = do
  v ← value_of operand env
  gives value.Undefined
-- 11.4.3
prefix_operation prefix.TypeOf operand env = do
  it ← reference operand env
  text ← type_of_reference it
  gives (value.Str text)
-- 11.4.4, 11.4.5
prefix_operation prefix.Increment operand env = changed sum_of operand env gives_after
prefix_operation prefix.Decrement operand env = changed difference_of operand env gives_after
-- 11.4.6
prefix_operation prefix.Plus operand env = number_operation as_it_is operand env
-- 11.4.7
prefix_operation prefix.Minus operand env = number_operation negation_of operand env
-- 11.4.8
prefix_operation prefix.BitNot operand env = number_operation complement operand env
-- 11.4.9
prefix_operation prefix.Not operand env = do
  v ← value_of operand env
  gives (value.Bool (not (truth_of v)))
