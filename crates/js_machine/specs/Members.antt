-- Members of objects, which are dots and indices (ES3 11.2.1): the nodes that work on them, what
-- they do once the base and the name are there, and calls (ES3 11.2.3).
use Rattle.std.specs.Prelude.{ℕ, Bool, true, false, not, if◌then◌else◌}
use Rattle.std.specs.Prelude.{List, [], length, Option, Some, None, is_some, reverse, take}
use Rattle.js_values.specs.declared.number.Num.{Num}
use Rattle.js_values.specs.declared.reason.Reason.TheVariants.{ReservedName}
use Rattle.js_values.specs.declared.value.Value.{Value}
use Rattle.js_values.specs.declared.value.Value.TheVariants as value
use Rattle.object_heap.specs.declared.built_in.BuiltIn.{BuiltIn}
use Rattle.object_heap.specs.declared.built_in.BuiltIn.TheVariants as built
use Rattle.object_heap.specs.declared.object.Class.{Class}
use Rattle.object_heap.specs.declared.object.Class.TheVariants as class
use Rattle.object_heap.specs.Arrays.{whole}
use Rattle.object_heap.specs.BuiltIns as built_ins
use Rattle.object_heap.specs.BuiltIns.{which}
use Rattle.object_heap.specs.Changes.{can_delete, deleted}
use Rattle.object_heap.specs.Get.{get}
use Rattle.object_heap.specs.Names.{Name, is_reserved, is_same_name, length_name}
use Rattle.object_heap.specs.Objects.{Heap, class_of}
use Rattle.object_heap.specs.Put as writes
use Rattle.js_tree.specs.declared.tree.BinaryOp.{BinaryOp}
use Rattle.js_tree.specs.declared.tree.PostfixOp.{PostfixOp}
use Rattle.js_tree.specs.declared.tree.PostfixOp.TheVariants as postfix
use Rattle.js_tree.specs.declared.tree.PrefixOp.{PrefixOp}
use Rattle.js_tree.specs.declared.tree.PrefixOp.TheVariants as prefix
use Rattle.js_tree.specs.Tree.{Expr}
use Rattle.js_tree.specs.Tree as tree
use Rattle.js_machine.specs.Asks.{Program, Enter, Has, Ret, Stop}
use Rattle.js_machine.specs.Conversions.{or_stop, to_name, to_number, to_object}
use Rattle.js_machine.specs.Frames.{◌>>=◌, ◌>>◌, done, gives, value_of}
use Rattle.js_machine.specs.Globals.{change_of, no_names, type_told}
use Rattle.js_machine.specs.Operators.{operate}
use Rattle.js_machine.specs.Page.{script_env}
use Rattle.js_machine.specs.References.{get_on, or_undefined, put_on}
use Rattle.js_machine.specs.Stacks.{top, without}
use Rattle.js_machine.specs.State.{is_length, value_read}
use Rattle.js_machine.specs.Unary.{delete_on, one}

-- a dot or an index
abbrev pub is_member : Expr → Bool
is_member (tree.Dot object name) = true
is_member (tree.Index object key) = true
is_member _ = false

-- the name of a dot
abbrev pub dot_name : Expr → Option Name
dot_name (tree.Num n) = None
dot_name (tree.Str text) = None
dot_name (tree.Truth b) = None
dot_name tree.Null = None
dot_name tree.This = None
dot_name (tree.Ident name) = None
dot_name (tree.Array es) = None
dot_name (tree.Object ps) = None
dot_name (tree.Function f) = None
dot_name (tree.Dot object name) = Some name
dot_name (tree.Index object key) = None
dot_name (tree.Call callee es) = None
dot_name (tree.New callee es) = None
dot_name (tree.Postfix target op) = None
dot_name (tree.Prefix op operand) = None
dot_name (tree.Binary op left right) = None
dot_name (tree.And left right) = None
dot_name (tree.Or left right) = None
dot_name (tree.Comma left right) = None
dot_name (tree.Cond test first second) = None
dot_name (tree.Assign op target right) = None
dot_name (tree.Late number) = None

-- whether it is an index
abbrev pub is_index : Expr → Bool
is_index (tree.Index object key) = true
is_index _ = false

-- whether a value has properties, so that it can be a base (9.9)
abbrev pub is_base : Value → Bool
is_base value.Undefined = false
is_base value.Null = false
is_base _ = true

-- ---- calls: a property of the base is called; what is no dot ends

abbrev pub member_called : Option Name → Value → List Value → Program
member_called None base arguments = done
member_called (Some name) base arguments = get_on base name (λ f. Enter f base arguments Ret)

-- ---- the nodes that work on a member

-- the target of a node that has one, and any other node itself
abbrev pub target_of : Expr → Expr
target_of (tree.Assign op target right) = target
target_of (tree.Postfix target op) = target
target_of (tree.Prefix op target) = target
target_of e = e

-- the object of a member
abbrev pub object_of : Expr → Expr
object_of (tree.Dot object name) = object
object_of (tree.Index object key) = object
object_of e = e

-- the operators on targets (11.4.1, 11.4.3 to 11.4.5)
abbrev pub is_on_target : PrefixOp → Bool
is_on_target prefix.Delete = true
is_on_target prefix.TypeOf = true
is_on_target prefix.Increment = true
is_on_target prefix.Decrement = true
is_on_target _ = false

-- whether a node has a member for its target
abbrev pub has_member : Expr → Bool
has_member (tree.Assign op target right) = is_member target
has_member (tree.Postfix target op) = is_member target
has_member (tree.Prefix op target) = if is_on_target op then is_member target else false
has_member _ = false

-- ---- what they do with it

-- 11.3.1, 11.3.2, 11.4.4 and 11.4.5, behind the number before
abbrev pub changed_to : PostfixOp → Bool → Value → Name → Num → Program
changed_to op gives_new base name before = do
  after ← or_stop (change_of op before one)
  put_on base name (value.Num after)
  gives (value.Num (if gives_new then after else before))

abbrev pub changed_member : PostfixOp → Bool → Value → Name → Value → Program
changed_member op gives_new base name old = to_number old (changed_to op gives_new base name)

-- 11.13.1
abbrev pub putting : Expr → Value → Name → Program
putting right base name = do
  v ← value_of right script_env
  put_on base name v
  gives v

-- 11.13.2
abbrev pub putting_with : BinaryOp → Expr → Value → Name → Program
putting_with op right base name = do
  v ← get_on base name
  w ← value_of right script_env
  r ← operate op v w
  put_on base name r
  gives r

abbrev pub on_member : PrefixOp → Value → Name → Program
on_member prefix.Delete base name = delete_on base name (λ b. gives (value.Bool b))
on_member prefix.TypeOf base name = get_on base name type_told
on_member prefix.Increment base name =
    get_on base name (changed_member postfix.Increment true base name)
on_member prefix.Decrement base name =
    get_on base name (changed_member postfix.Decrement true base name)
on_member _ base name = done

abbrev pub with_member : Expr → Value → Name → Program
with_member (tree.Dot object x) base name = get_on base name gives
with_member (tree.Index object key) base name = get_on base name gives
with_member (tree.Assign None target right) base name = putting right base name
with_member (tree.Assign (Some op) target right) base name = putting_with op right base name
with_member (tree.Postfix target op) base name =
    get_on base name (changed_member op false base name)
with_member (tree.Prefix op target) base name = on_member op base name
with_member _ base name = done

-- behind the text of a key
abbrev pub named : Expr → Value → Name → Program
named e base name = if is_reserved name then Stop ReservedName else with_member e base name

-- 11.8.7, behind the text of the left operand
abbrev pub has_named : ℕ → Name → Program
has_named o name =
    if is_reserved name then Stop ReservedName else Has o name (λ b. gives (value.Bool b))

-- behind the base and the value of the key
abbrev pub keyed : Expr → Value → Value → Program
keyed e base v = to_object base (to_name v (with_member e base))

-- behind the base of the node's target
abbrev pub based : Expr → Expr → Value → Program
based (tree.Dot object name) e base = to_object base (with_member e base name)
based (tree.Index object key) e base = value_of key script_env (keyed e base)
based _ e base = done

-- a name that stands on the stack
abbrev pub text_in : Value → Name
text_in (value.Str text) = text
text_in _ = []

-- ---- the stack, on which so many arguments stand above their base

abbrev pub arguments_on : ℕ → List Value → List Value
arguments_on count vs = reverse (take count vs)

abbrev pub base_on : ℕ → List Value → Value
base_on count vs = top (without count vs)

-- ---- what is read of a property, where no scope has a value of it

abbrev pub property_of : Heap → ℕ → Name → Value
property_of heap o name = or_undefined (value_read no_names (get heap o name))

abbrev pub property_of_text : Heap → List ℕ → Name → Value
property_of_text heap text name =
    if is_same_name name length_name then whole (length text)
    else property_of heap (built_ins.number_of built.StringPrototype) name

abbrev pub property_in : Heap → Value → Name → Value
property_in heap (value.Object o) name = property_of heap o.0 name
property_in heap (value.Str text) name = property_of_text heap text name
property_in heap (value.Num n) name =
    property_of heap (built_ins.number_of built.NumberPrototype) name
property_in heap (value.Bool b) name =
    property_of heap (built_ins.number_of built.BooleanPrototype) name
property_in heap value.Null name = value.Undefined
property_in heap value.Undefined name = value.Undefined

-- whether it can be deleted, and the heap behind that (8.6.2.5)
abbrev pub deletes : Heap → Value → Name → Bool
deletes heap (value.Object o) name = can_delete heap o.0 name
deletes heap (value.Str text) name = not (is_same_name name length_name)
deletes heap _ name = true

abbrev pub heap_deleted : Heap → Value → Name → Heap
heap_deleted heap (value.Object o) name = deleted o.0 name heap
heap_deleted heap _ name = heap

-- whether no RangeError is due where it is written, and the heap behind that (8.7.2)
abbrev pub is_put : Heap → Value → Name → Value → Bool
is_put heap (value.Object o) name v = is_length (writes.put heap o.0 name v)
is_put heap _ name v = true

abbrev pub heap_put : Heap → Value → Name → Value → Heap
heap_put heap (value.Object o) name v = writes.written heap o.0 name v
heap_put heap _ name v = heap

-- ---- functions of the start

abbrev pub is_native_by : Option Class → Option BuiltIn → Bool
is_native_by (Some class.Function) b = is_some b
is_native_by _ b = false

abbrev pub is_native : Heap → ℕ → Bool
is_native heap o = is_native_by (class_of heap o) (which o)
