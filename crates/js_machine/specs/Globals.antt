-- What a script without functions does with names: each is a property of the global object, since
-- the one scope has no names (ES3 10.1.4, 10.2.1).
use Rattle.std.specs.Prelude.{ℕ, Bool, true, false, not, if◌then◌else◌, List, [], ◌∷◌, map}
use Rattle.std.specs.Prelude.{Option, Some, None, is_some, Result, Ok}
use Rattle.js_values.specs.declared.number.Num.{Num}
use Rattle.js_values.specs.declared.reason.Reason.{Reason}
use Rattle.js_values.specs.declared.value.Value.{Value}
use Rattle.js_values.specs.declared.value.Value.TheVariants as value
use Rattle.js_values.specs.Numbers.{sum_of, difference_of, negation_of}
use Rattle.js_values.specs.Values.{number_of, truth_of}
use Rattle.object_heap.specs.declared.object.Attrs.{Attrs}
use Rattle.object_heap.specs.declared.object.Class.{Class}
use Rattle.object_heap.specs.declared.object.Class.TheVariants as class
use Rattle.object_heap.specs.BuiltIns.{which}
use Rattle.object_heap.specs.Changes.{defined}
use Rattle.object_heap.specs.Get.{get}
use Rattle.object_heap.specs.Names.{Name}
use Rattle.object_heap.specs.Objects.{Heap, attributes_of, class_of}
use Rattle.scope_arena.specs.Scopes.{Scopes, entered}
use Rattle.js_tree.specs.declared.tree.PostfixOp.{PostfixOp}
use Rattle.js_tree.specs.declared.tree.PostfixOp.TheVariants as postfix
use Rattle.js_tree.specs.declared.tree.PrefixOp.{PrefixOp}
use Rattle.js_tree.specs.declared.tree.PrefixOp.TheVariants as prefix
use Rattle.js_tree.specs.Tree.{Expr, MaybeExpr, NoExpr, AnExpr}
use Rattle.js_tree.specs.Tree.{VarItems, NoVarItems, MoreVarItems}
use Rattle.js_tree.specs.Tree as tree
use Rattle.js_machine.specs.declared.hosts.HostCall.{HostCall}
use Rattle.js_machine.specs.Asks.{Program}
use Rattle.js_machine.specs.State.{Body, OfHost, function_callee, value_read}
use Rattle.js_machine.specs.Frames.{◌>>=◌, ◌>>◌, done, gives}
use Rattle.js_machine.specs.Conversions.{or_stop, to_number}
use Rattle.js_machine.specs.Entries.{declared}
use Rattle.js_machine.specs.Operated.{Operated, with_number}
use Rattle.js_machine.specs.Page.{script_env}
use Rattle.js_machine.specs.References.{resolve, get_value, put_value, put}
use Rattle.js_machine.specs.References.{global_object}
use Rattle.js_machine.specs.Unary.{complement, one, type_name}
use Rattle.js_machine.specs.Variables.{variables}

-- ---- names

-- the one scope, in which nothing is bound
abbrev pub no_names : Scopes
no_names = entered [] None []

-- the value of a name, if it is bound
abbrev pub value_of_global : Heap → Name → Option Value
value_of_global heap name = value_read no_names (get heap global_object name)

-- an expression that is a name
abbrev pub name_in : Expr → Option Name
name_in (tree.Num n) = None
name_in (tree.Str text) = None
name_in (tree.Truth b) = None
name_in tree.Null = None
name_in tree.This = None
name_in (tree.Ident name) = Some name
name_in (tree.Array es) = None
name_in (tree.Object ps) = None
name_in (tree.Function f) = None
name_in (tree.Dot object name) = None
name_in (tree.Index object key) = None
name_in (tree.Call callee es) = None
name_in (tree.New callee es) = None
name_in (tree.Postfix target op) = None
name_in (tree.Prefix op operand) = None
name_in (tree.Binary op left right) = None
name_in (tree.And left right) = None
name_in (tree.Or left right) = None
name_in (tree.Comma left right) = None
name_in (tree.Cond test first second) = None
name_in (tree.Assign op target right) = None
name_in (tree.Late number) = None

-- ---- writes (ES3 8.7.2): what is no name is not written

-- v is written to a name, and w is given
abbrev pub stored : Option Name → Value → Value → Program
stored None v w = gives w
stored (Some name) v w = put global_object name v (gives w)

-- ---- 11.3.1, 11.3.2, 11.4.4 and 11.4.5, behind the step of the target

abbrev pub change_of : PostfixOp → Num → Num → Result Num Reason
change_of postfix.Increment = sum_of
change_of postfix.Decrement = difference_of

-- the number before is read; the new number is given, or that one
abbrev pub changing : PostfixOp → Bool → Option Name → Program
changing op gives_new None = done
changing op gives_new (Some name) = do
  it ← resolve script_env.chain name
  old ← get_value it
  before ← to_number old
  after ← or_stop (change_of op before one)
  put_value it (value.Num after)
  gives (value.Num (if gives_new then after else before))

-- a name that is bound, with the number before
abbrev pub changed_from : PostfixOp → Bool → Option Name → Num → Program
changed_from op gives_new name before = do
  after ← or_stop (change_of op before one)
  stored name (value.Num after) (value.Num (if gives_new then after else before))

-- `++` and `--` before a name
abbrev pub prefix_of : PostfixOp → PrefixOp
prefix_of postfix.Increment = prefix.Increment
prefix_of postfix.Decrement = prefix.Decrement

-- ---- 11.4: what an operator makes of a value

abbrev pub unary : PrefixOp → Value → Program
unary prefix.Void v = gives value.Undefined
unary prefix.Plus v = to_number v (λ n. gives (value.Num n))
unary prefix.Minus v = to_number v (λ n. gives (value.Num (negation_of n)))
unary prefix.BitNot v = to_number v (λ n. gives (value.Num (complement n)))
unary prefix.Not v = gives (value.Bool (not (truth_of v)))
-- of what is no reference
unary prefix.Delete v = gives (value.Bool true)
-- none of these: `typeof`, and the operators on targets
unary prefix.TypeOf v = gives v
unary prefix.Increment v = gives v
unary prefix.Decrement v = gives v

-- ---- the same, where it asks for nothing

-- what an operator makes of a number
abbrev pub number_by : PrefixOp → Num → Num
number_by prefix.Minus n = negation_of n
number_by prefix.BitNot n = complement n
number_by _ n = n

abbrev pub on_number : PrefixOp → Value → Operated
on_number op v = with_number (number_of v) (λ n. Some (Ok (value.Num (number_by op n))))

abbrev pub unary_of : PrefixOp → Value → Operated
unary_of prefix.Void v = Some (Ok value.Undefined)
unary_of prefix.Plus v = on_number prefix.Plus v
unary_of prefix.Minus v = on_number prefix.Minus v
unary_of prefix.BitNot v = on_number prefix.BitNot v
unary_of prefix.Not v = Some (Ok (value.Bool (not (truth_of v))))
unary_of prefix.Delete v = Some (Ok (value.Bool true))
unary_of prefix.TypeOf v = Some (Ok v)
unary_of prefix.Increment v = Some (Ok v)
unary_of prefix.Decrement v = Some (Ok v)

-- 11.4.3
abbrev pub type_told : Value → Program
type_told v = type_name v (λ text. gives (value.Str text))

-- ---- functions

-- the body of a host call
abbrev pub host_body : HostCall → ℕ × Body
host_body call = (call.object, OfHost call.name)

-- whether an object can be called
abbrev pub is_callable_by : Option Class → List HostCall → ℕ → Bool
is_callable_by None hosts o = false
is_callable_by (Some class.Array) hosts o = false
is_callable_by (Some class.Plain) hosts o = false
is_callable_by (Some class.Function) hosts o =
    is_some (function_callee (which o) (map host_body hosts) o)
is_callable_by (Some class.Arguments) hosts o = false
is_callable_by (Some class.Error) hosts o = false
is_callable_by (Some class.Math) hosts o = false

abbrev pub is_callable : Heap → List HostCall → Value → Bool
is_callable heap hosts (value.Object o) = is_callable_by (class_of heap o.0) hosts o.0
is_callable heap hosts _ = false

-- ---- 10.2.1: variables of a script

abbrev pub with_variable_by : Option Attrs → Name → Heap → Heap
with_variable_by None name heap = defined global_object name value.Undefined declared heap
with_variable_by (Some attributes) name heap = heap

abbrev pub with_variable : Name → Heap → Heap
with_variable name heap = with_variable_by (attributes_of heap global_object name) name heap

abbrev pub with_variables : List Name → Heap → Heap
with_variables [] heap = heap
with_variables (name ∷ names) heap = with_variables names (with_variable name heap)

-- ---- 12.2

-- whether the first of the items, if any, has an initialiser
abbrev pub is_initialised : VarItems → Bool
is_initialised NoVarItems = true
is_initialised (MoreVarItems name NoExpr rest) = false
is_initialised (MoreVarItems name (AnExpr e) rest) = true

-- the first item has its value; then come the others, and p
abbrev pub initialised : VarItems → Program → Value → Program
initialised NoVarItems p v = p
initialised (MoreVarItems name e rest) p v = do
  put global_object name v
  variables rest script_env p
