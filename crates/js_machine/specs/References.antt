-- References, which an expression gives where it is read or written later (ES3 8.7, 10.1.4).
use Rattle.std.specs.Prelude.{ℕ, Bool, if◌then◌else◌, List, length, Option, Some, None}
use Rattle.js_values.specs.declared.value.Value.{Value}
use Rattle.js_values.specs.declared.value.Value.TheVariants as value
use Rattle.exceptions_core.specs.declared.completion.Completion.TheVariants.{Throw}
use Rattle.object_heap.specs.declared.built_in.BuiltIn.{BuiltIn}
use Rattle.object_heap.specs.declared.built_in.BuiltIn.TheVariants as built
use Rattle.object_heap.specs.declared.object.Class.TheVariants as class
use Rattle.object_heap.specs.Arrays.{whole}
use Rattle.object_heap.specs.BuiltIns.{number_of}
use Rattle.object_heap.specs.Changes.{new_object}
use Rattle.object_heap.specs.Names.{Name, is_same_name, length_name}
use Rattle.object_heap.specs.Objects.{Object}
use Rattle.js_machine.specs.Asks.{Program, Find, Write, Make, Get, Put, Has}
use Rattle.js_machine.specs.State.{object_value}
use Rattle.js_machine.specs.Frames.{Asks, ◌>>=◌, completes}

-- ---- errors: new objects without an own `message`

abbrev pub error_object : BuiltIn → Object
error_object prototype = new_object class.Error (Some (number_of prototype))

abbrev pub throws : BuiltIn → Program
throws prototype = Make (error_object prototype) (λ e. completes (Throw (object_value e)))

abbrev pub throws_type_error : Program
throws_type_error = throws built.TypeErrorPrototype

abbrev pub throws_reference_error : Program
throws_reference_error = throws built.ReferenceErrorPrototype

abbrev pub throws_range_error : Program
throws_range_error = throws built.RangeErrorPrototype

-- ---- the type

pub data Reference : Type 0 where
  -- a value that is no reference
  NoReference : (v : Value) → Reference
  -- the name in the first scope of the chain that has it: its base is an activation object
  InScope : (chain : List ℕ) → (name : Name) → Reference
  -- a property of an object, or of a primitive value
  OnBase : (base : Value) → (name : Name) → Reference
  -- a name that is nowhere bound: its base is null
  Unbound : (name : Name) → Reference

abbrev pub global_object : ℕ
global_object = number_of built.Global

abbrev pub global_value : Value
global_value = object_value global_object

-- ---- 10.1.4, a name: in the scopes of the chain, the innermost first, and then as a property of
-- the global object

abbrev pub if_global : Name → Bool → Reference
if_global name is_there = if is_there then OnBase global_value name else Unbound name

abbrev pub if_found : List ℕ → Name → Option Value → Asks Reference
if_found chain name (Some v) k = k (InScope chain name)
if_found chain name None k = do
  is_there ← Has global_object name
  k (if_global name is_there)

abbrev pub resolve : List ℕ → Name → Asks Reference
resolve chain name k = do
  found ← Find chain name
  if_found chain name found k

-- ---- reads

abbrev pub or_undefined : Option Value → Value
or_undefined None = value.Undefined
or_undefined (Some v) = v

abbrev pub get : ℕ → Name → Asks Value
get o name k = Get o name (λ found. k (or_undefined found))

-- a property of a text: its `length`, or one of String.prototype (15.5.5.1)
abbrev pub get_of_text : List ℕ → Name → Asks Value
get_of_text text name k =
    if is_same_name name length_name then k (whole (length text))
    else get (number_of built.StringPrototype) name k

-- a property of an object, or of the prototype of a primitive value
abbrev pub get_on : Value → Name → Asks Value
get_on (value.Object o) name k = get o.0 name k
get_on (value.Str text) name k = get_of_text text name k
get_on (value.Num n) name k = get (number_of built.NumberPrototype) name k
get_on (value.Bool b) name k = get (number_of built.BooleanPrototype) name k
get_on value.Null name k = k value.Undefined
get_on value.Undefined name k = k value.Undefined

-- 8.7.1
abbrev pub get_value : Reference → Asks Value
get_value (NoReference v) k = k v
get_value (InScope chain name) k = Find chain name (λ found. k (or_undefined found))
get_value (OnBase base name) k = get_on base name k
get_value (Unbound name) k = throws_reference_error

-- ---- writes

-- [[Put]], where a RangeError is thrown if it is due (15.4.5.1, step 13)
abbrev pub put : ℕ → Name → Value → Program → Program
put o name v p = do
  is_length ← Put o name v
  if is_length then p else throws_range_error

-- to a property of a primitive value it has no effect
abbrev pub put_on : Value → Name → Value → Program → Program
put_on (value.Object o) name v p = put o.0 name v p
put_on base name v p = p

-- 8.7.2
abbrev pub put_value : Reference → Value → Program → Program
put_value (NoReference old) v p = throws_reference_error
put_value (InScope chain name) v p = Write chain name v p
put_value (OnBase base name) v p = put_on base name v p
put_value (Unbound name) v p = put global_object name v p
