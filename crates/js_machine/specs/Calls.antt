-- Member access, calls and `new` (ES3 11.2), and the references of targets and callees.
use Rattle.std.specs.Prelude.{ℕ, List, [], ◌∷◌, ◌++◌}
use Rattle.js_values.specs.declared.value.Value.{Value}
use Rattle.js_values.specs.declared.value.Value.TheVariants as value
use Rattle.object_heap.specs.Names.{Name}
use Rattle.js_calls.specs.Construct.{result_of}
use Rattle.js_tree.specs.Tree.{Expr, Exprs, NoExprs, MoreExprs}
use Rattle.js_tree.specs.Tree as tree
use Rattle.js_machine.specs.Asks.{Program, Ret, Tick, Enter, MakeNew, KindOf, Env, Outcome, Kind}
use Rattle.js_machine.specs.Asks.{NotObject, NotFunction, ScriptFunction, NativeFunction}
use Rattle.js_machine.specs.Asks.{HostFunction}
use Rattle.js_machine.specs.State.{object_value}
use Rattle.js_machine.specs.Frames.{Asks, ◌>>=◌, ◌>>◌, gives, on_value, value_of}
use Rattle.js_machine.specs.References.{Reference, NoReference, InScope, OnBase, Unbound, resolve}
use Rattle.js_machine.specs.References.{get_value, throws_type_error}
use Rattle.js_machine.specs.Conversions.{to_object, to_name}
use Rattle.js_machine.specs.Embed.{construct_native}

-- ---- 11.2.1

-- a dot's name needs no conversion
abbrev pub dot : Expr → Name → Env → Asks Reference
dot object name env k = do
  base ← value_of object env
  to_object base
  k (OnBase base name)

abbrev pub index : Expr → Expr → Env → Asks Reference
index object key env k = do
  base ← value_of object env
  v ← value_of key env
  to_object base
  name ← to_name v
  k (OnBase base name)

-- a node that is begun as a target or a callee: a name (11.1.2), a dot and an index give a
-- reference, any other expression its value
abbrev pub reference : Expr → Env → Asks Reference
reference (tree.Ident name) env k = Tick (resolve env.chain name k)
reference (tree.Dot object name) env k = Tick (dot object name env k)
reference (tree.Index object key) env k = Tick (index object key env k)
reference e env k = value_of e env (λ v. k (NoReference v))

-- ---- 11.2.4: the values of arguments from the left, behind those that stand in done

abbrev pub arguments : Exprs → Env → List Value → Asks (List Value)
arguments NoExprs env done k = k done
arguments (MoreExprs e es) env done k = do
  v ← value_of e env
  arguments es env (done ++ v ∷ []) k

-- ---- 11.2.3

-- `this` of the call: the base, where it is no activation object
abbrev pub base_of : Reference → Value
base_of (NoReference v) = value.Undefined
base_of (InScope chain name) = value.Undefined
base_of (OnBase base name) = base
base_of (Unbound name) = value.Undefined

-- the callee's value is taken after the arguments
abbrev pub call : Expr → Exprs → Env → Program
call callee es env = do
  callee ← reference callee env
  args ← arguments es env []
  f ← get_value callee
  Enter f (base_of callee) args Ret

-- ---- 11.2.2

-- 13.2.2, steps 7 and 8: the function's result where it is an object, else the new object
abbrev pub result_or : ℕ → Value → Program
result_or new v = gives (result_of (object_value new) v)

abbrev pub after_construction : ℕ → Outcome → Program
after_construction new = on_value (result_or new)

-- 13.2.2 [[Construct]]
abbrev pub construct_script : ℕ → List Value → Program
construct_script f args = do
  new ← MakeNew f
  Enter (object_value f) (object_value new) args (after_construction new)

-- steps 4 to 6
abbrev pub construct : ℕ → List Value → Kind → Program
construct f args NotObject = throws_type_error
construct f args (NotFunction class) = throws_type_error
construct f args ScriptFunction = construct_script f args
construct f args (NativeFunction b) = construct_native b args
construct f args HostFunction = throws_type_error

abbrev pub construct_value : Value → List Value → Program
construct_value (value.Object f) args = KindOf (value.Object f) (construct f.0 args)
construct_value v args = throws_type_error

-- the callee's value is taken before the arguments, and tested after them
abbrev pub new : Expr → Exprs → Env → Program
new callee es env = do
  f ← value_of callee env
  args ← arguments es env []
  construct_value f args

-- ---- the value of a dot or an index

abbrev pub read : Asks Reference → Program
read reference = do
  it ← reference
  v ← get_value it
  gives v
