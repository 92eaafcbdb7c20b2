-- `call` and `apply` of Function.prototype (ES3 15.3.4.3, 15.3.4.4), which enter a function.
use Rattle.std.specs.Prelude.{ℕ, zero, suc, if◌then◌else◌, List, [], ◌∷◌, ◌++◌}
use Rattle.js_values.specs.declared.reason.Reason.TheVariants.{Wrapper}
use Rattle.js_values.specs.declared.value.Value.{Value}
use Rattle.js_values.specs.declared.value.Value.TheVariants as value
use Rattle.js_values.specs.Integers.{uint32_of}
use Rattle.object_heap.specs.declared.object.Class.{Class}
use Rattle.object_heap.specs.declared.object.Class.TheVariants as class
use Rattle.object_heap.specs.Names.{length_name, decimal}
use Rattle.js_machine.specs.Asks.{Program, Ret, Enter, Tick, Stop, KindOf}
use Rattle.js_machine.specs.Frames.{Asks, ◌>>=◌, ◌>>◌}
use Rattle.js_machine.specs.References.{get, throws_type_error}
use Rattle.js_machine.specs.Conversions.{to_number}
use Rattle.js_machine.specs.Kinds.{is_function, class_by}

-- `this`, which is to be a function; an undefined or null one is the global object
abbrev pub this_function : Value → Program → Program
this_function value.Undefined p = throws_type_error
this_function value.Null p = throws_type_error
this_function (value.Bool b) p = Stop Wrapper
this_function (value.Num n) p = Stop Wrapper
this_function (value.Str text) p = Stop Wrapper
this_function (value.Object f) p = do
  kind ← KindOf (value.Object f)
  if is_function kind then p else throws_type_error

-- ---- 15.3.4.3

-- so many values from an index on, each behind a step
abbrev pub values_from : ℕ → ℕ → ℕ → List Value → Asks (List Value)
values_from zero index o done k = k done
values_from (suc count) index o done k = do
  Tick
  v ← get o (decimal index)
  values_from count (suc index) o (done ++ v ∷ []) k

abbrev pub values_in : ℕ → Asks (List Value)
values_in o k = do
  v ← get o length_name
  n ← to_number v
  values_from (uint32_of n) 0 o [] k

-- an array and `arguments` have a list
abbrev pub list_by_class : Class → ℕ → Asks (List Value)
list_by_class class.Array o k = values_in o k
list_by_class class.Arguments o k = values_in o k
list_by_class class.Plain o k = throws_type_error
list_by_class class.Function o k = throws_type_error
list_by_class class.Error o k = throws_type_error
list_by_class class.Math o k = throws_type_error

abbrev pub list_of : Value → Asks (List Value)
list_of value.Undefined k = k []
list_of value.Null k = k []
list_of (value.Bool b) k = throws_type_error
list_of (value.Num n) k = throws_type_error
list_of (value.Str text) k = throws_type_error
list_of (value.Object o) k = do
  kind ← KindOf (value.Object o)
  list_by_class (class_by kind) o.0 k

abbrev pub apply_to : Value → List Value → Program
apply_to f [] = Enter f value.Undefined [] Ret
apply_to f (this ∷ []) = Enter f this [] Ret
apply_to f (this ∷ list ∷ more) = do
  args ← list_of list
  Enter f this args Ret

abbrev pub apply : Value → List Value → Program
apply f args = do
  this_function f
  apply_to f args

-- ---- 15.3.4.4

abbrev pub call_with : Value → List Value → Program
call_with f [] = Enter f value.Undefined [] Ret
call_with f (this ∷ args) = Enter f this args Ret

abbrev pub call : Value → List Value → Program
call f args = do
  this_function f
  call_with f args
