-- The state of a run, and what each ask changes in it.
use Rattle.std.specs.Prelude.{ℕ, suc, nat_eq, Bool, true, false, if◌then◌else◌, List, [], ◌∷◌, ◌++◌}
use Rattle.std.specs.Prelude.{Option, Some, None, slice_get, length, unwrap_or}
use Rattle.js_values.specs.declared.value.Value.{Value}
use Rattle.js_values.specs.declared.value.Value.TheVariants as value
use Rattle.js_values.specs.Shown.{Passed}
use Rattle.object_heap.specs.declared.object.Class.{Class}
use Rattle.object_heap.specs.declared.object.Class.TheVariants as class
use Rattle.object_heap.specs.declared.built_in.BuiltIn.{BuiltIn}
use Rattle.object_heap.specs.Names.{Name, is_same_name}
use Rattle.object_heap.specs.Objects.{Slot, Holds, Shares, Object, Heap, class_of}
use Rattle.object_heap.specs.BuiltIns.{which}
use Rattle.object_heap.specs.Get.{get}
use Rattle.object_heap.specs.Put as heap_put
use Rattle.scope_arena.specs.Scopes.{Scopes, entered, value_at, written_at}
use Rattle.scope_arena.specs.Search.{with_name}
use Rattle.js_tree.specs.Tree.{Func, Code, Stmts}
use Rattle.js_calls.specs.Construct.{constructed}
use Rattle.js_calls.specs.Declared.{functions_of}
use Rattle.js_calls.specs.Entry.{Entered, entry_of}
use Rattle.js_calls.specs.FunctionObjects as function_objects
use Rattle.js_calls.specs.FunctionObjects.{formals_of}
use Rattle.js_machine.specs.Asks.{Kind, NotObject, NotFunction, ScriptFunction, NativeFunction}
use Rattle.js_machine.specs.Asks.{HostFunction}

-- ---- the state

-- what a function that was not there at the start runs: its code, in the scopes in which it was
-- made (ES3 13.2), or a call of the host
pub data Body : Type 0 where
  OfScript : (code : Func) → (chain : List ℕ) → Body
  OfHost : (name : Name) → Body

pub record State : Type 0 where
  pub heap : Heap
  -- the bodies of functions, by the numbers of their objects, the newest first
  pub bodies : List (ℕ × Body)
  pub scopes : Scopes
  -- types and functions, in order of registration
  pub listeners : List (Name × ℕ)
  -- the names of the host calls so far
  pub called : List Name
  -- the objects that have passed to the host
  pub passed : Passed
  pub beats : ℕ
  pub steps : ℕ

abbrev pub object_value : ℕ → Value
object_value o = value.Object (record { 0 = o })

-- ---- what a value runs when it is entered, and its kind

pub data Callee : Type 0 where
  Script : (code : Func) → (chain : List ℕ) → Callee
  Native : (b : BuiltIn) → Callee
  HostCall : (name : Name) → Callee

abbrev pub body_callee : Body → Callee
body_callee (OfScript code chain) = Script code chain
body_callee (OfHost name) = HostCall name

abbrev pub body_in : List (ℕ × Body) → ℕ → Option Callee
body_in [] o = None
body_in (b ∷ bs) o = if nat_eq b.0 o then Some (body_callee b.1) else body_in bs o

abbrev pub function_callee : Option BuiltIn → List (ℕ × Body) → ℕ → Option Callee
function_callee (Some b) bodies o = Some (Native b)
function_callee None bodies o = body_in bodies o

-- the functions are the objects of class Function
abbrev pub callee_by : Option Class → State → ℕ → Option Callee
callee_by (Some class.Function) s o = function_callee (which o) s.bodies o
callee_by _ s o = None

abbrev pub callee_of : State → Value → Option Callee
callee_of s (value.Object o) = callee_by (class_of s.heap o.0) s o.0
callee_of s _ = None

abbrev pub kind_by : Class → Option Callee → Kind
kind_by class None = NotFunction class
kind_by class (Some (Script code chain)) = ScriptFunction
kind_by class (Some (Native b)) = NativeFunction b
kind_by class (Some (HostCall name)) = HostFunction

abbrev pub kind_in : Option Class → Option Callee → Kind
kind_in None callee = NotObject
kind_in (Some class) callee = kind_by class callee

abbrev pub kind_of : State → Value → Kind
kind_of s (value.Object o) = kind_in (class_of s.heap o.0) (callee_of s (value.Object o))
kind_of s _ = NotObject

-- ---- reads and writes of properties, some of which share their value with a formal (ES3 10.1.8)

abbrev pub value_in_slot : Scopes → Slot → Value
value_in_slot scopes (Holds v) = v
value_in_slot scopes (Shares scope place) = value_at scopes scope place

abbrev pub value_read : Scopes → Option Slot → Option Value
value_read scopes None = None
value_read scopes (Some slot) = Some (value_in_slot scopes slot)

abbrev pub property_value : State → ℕ → Name → Option Value
property_value s o name = value_read s.scopes (get s.heap o name)

abbrev pub scopes_after : heap_put.Put → Value → Scopes → Scopes
scopes_after (heap_put.Done heap) v scopes = scopes
scopes_after heap_put.Ignored v scopes = scopes
scopes_after (heap_put.Shared scope place) v scopes = written_at scope place v scopes
scopes_after heap_put.BadLength v scopes = scopes

-- false where a RangeError is due
abbrev pub is_length : heap_put.Put → Bool
is_length (heap_put.Done heap) = true
is_length heap_put.Ignored = true
is_length (heap_put.Shared scope place) = true
is_length heap_put.BadLength = false

-- ---- the functions that listen to a type, in order of registration

abbrev pub listening : List (Name × ℕ) → Name → List ℕ
listening [] type = []
listening (l ∷ ls) type =
    if is_same_name l.0 type then l.1 ∷ listening ls type else listening ls type

-- ---- changes

abbrev pub body_of : Func → Stmts
body_of (Code number name formals body role) = body

abbrev pub with_step : State → State
with_step s = record s { steps = suc s.steps }

abbrev pub with_beat : State → State
with_beat s = record s { beats = suc s.beats }

abbrev pub with_passed : Passed → State → State
with_passed passed s = record s { passed = passed }

-- a host call, with its arguments
abbrev pub with_call : Name → Passed → State → State
with_call name passed s = record s { called = s.called ++ name ∷ []; passed = passed }

abbrev pub with_listener : Name → ℕ → State → State
with_listener type f s = record s { listeners = s.listeners ++ (type, f) ∷ [] }

abbrev pub with_heap : Heap → State → State
with_heap heap s = record s { heap = heap }

abbrev pub with_scopes : Scopes → State → State
with_scopes scopes s = record s { scopes = scopes }

-- the new object comes last; its number is the count of those before
abbrev pub with_object : Object → State → State
with_object object s = record s { heap = s.heap ++ object ∷ [] }

-- a function, and behind it the object that is its `prototype` (ES3 13.2)
abbrev pub with_function : Func → List ℕ → State → State
with_function code chain s = record s {
  heap = function_objects.with_function (length (formals_of code)) s.heap;
  bodies = (length s.heap, OfScript code chain) ∷ s.bodies;
}

-- the object that `new` makes of a function (ES3 13.2.2)
abbrev pub with_new : ℕ → State → State
with_new f s = record s { heap = constructed f s.heap }

-- what an entry binds (ES3 10.1.3), and with it the bodies of the functions that it declares, which
-- are made in its scope
abbrev pub with_bodies : List ℕ → List Func → List ℕ → List (ℕ × Body) → List (ℕ × Body)
with_bodies [] codes chain bodies = bodies
with_bodies (o ∷ os) [] chain bodies = bodies
with_bodies (o ∷ os) (code ∷ codes) chain bodies =
    with_bodies os codes chain ((o, OfScript code chain) ∷ bodies)

abbrev pub with_entered : Entered → Func → List ℕ → State → State
with_entered e code chain s = record s {
  heap = e.heap;
  scopes = e.scopes;
  bodies = with_bodies e.functions (functions_of (body_of code)) (e.scope ∷ chain) s.bodies;
}

abbrev pub with_entry : Func → List ℕ → List Value → State → State
with_entry code chain args s =
    with_entered (entry_of code (slice_get chain 0) args s.heap s.scopes) code chain s

abbrev pub with_put : heap_put.Put → Value → State → State
with_put put v s = record s {
  heap = heap_put.heap_after s.heap put;
  scopes = scopes_after put v s.scopes;
}

-- the scope around a new one is the innermost of the chain
abbrev pub with_scope : List Name → List ℕ → State → State
with_scope names chain s = with_scopes (entered names (slice_get chain 0) s.scopes) s

abbrev pub with_write : List ℕ → Name → Value → State → State
with_write chain name v s = with_scopes (unwrap_or (with_name s.scopes chain name v) s.scopes) s
