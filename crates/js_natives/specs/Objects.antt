-- Object and Object.prototype (ES3 15.2), and `toString` of Function.prototype (15.3.4).
use Rattle.std.specs.Prelude.{ℕ, Bool, false, not, List, codes, ◌++◌, Option, Some, None}
use Rattle.std.specs.Prelude.{if◌then◌else◌}
use Rattle.js_values.specs.declared.reason.Reason.TheVariants as reason
use Rattle.js_values.specs.declared.value.Value.{Value}
use Rattle.js_values.specs.declared.value.Value.TheVariants as value
use Rattle.object_heap.specs.declared.built_in.BuiltIn.TheVariants as built
use Rattle.object_heap.specs.declared.object.Attrs.{Attrs}
use Rattle.object_heap.specs.declared.object.Class.{Class}
use Rattle.object_heap.specs.declared.object.Class.TheVariants as class
use Rattle.object_heap.specs.BuiltIns.{number_of}
use Rattle.object_heap.specs.Names.{Name, is_reserved}
use Rattle.js_natives.specs.declared.answer.ErrorKind.TheVariants.{TypeError}
use Rattle.js_natives.specs.declared.answer.Answer.{Answer}
use Rattle.js_natives.specs.Asks.{Asks, ◌>>=◌, pure, make, class_of, own, has, behind, stop, throw}
use Rattle.js_natives.specs.Asks.{truth_answer, text_answer, object_answer, value_answer}
use Rattle.js_natives.specs.This.{this_object}
use Rattle.js_natives.specs.Convert.{argument, text_at}

-- ---- Object ([value]) and new Object ([value]) (15.2.1.1, 15.2.2.1)

abbrev pub new_object : Asks Answer
new_object = do
  made ← make class.Plain (number_of built.ObjectPrototype)
  object_answer made

abbrev pub object_of : Value → Asks Answer
object_of value.Undefined = new_object
object_of value.Null = new_object
object_of (value.Bool b) = stop reason.Wrapper
object_of (value.Num n) = stop reason.Wrapper
object_of (value.Str s) = stop reason.Wrapper
object_of (value.Object o) = value_answer (value.Object o)

abbrev pub object : Value → List Value → Asks Answer
object this args = object_of (argument args 0)

-- ---- Object.prototype.toString () (15.2.4.2)

-- [[Class]] by its name
abbrev pub class_name : Class → Name
class_name class.Plain = codes "Object"
class_name class.Function = codes "Function"
class_name class.Array = codes "Array"
class_name class.Arguments = codes "Object"
class_name class.Error = codes "Error"
class_name class.Math = codes "Math"

abbrev pub object_to_string : Value → List Value → Asks Answer
object_to_string this args = do
  o ← this_object this
  c ← class_of o
  text_answer (codes "[object " ++ class_name c ++ codes "]")

-- ---- Object.prototype.valueOf () (15.2.4.4)

abbrev pub object_value_of : Value → List Value → Asks Answer
object_value_of this args = do
  o ← this_object this
  object_answer o

-- ---- Object.prototype.hasOwnProperty (V) (15.2.4.5)

-- names of Doloto's own are not asked for
abbrev pub unreserved : Name → Asks Name
unreserved name = if is_reserved name then stop reason.ReservedName else pure name

abbrev pub has_own_property : Value → List Value → Asks Answer
has_own_property this args = do
  o ← this_object this
  name ← unreserved (text_at args 0)
  b ← has o name
  truth_answer b

-- ---- Object.prototype.isPrototypeOf (V) (15.2.4.6)

abbrev pub is_prototype_of_value : ℕ → Value → Asks Answer
is_prototype_of_value o (value.Object v) = do
  b ← behind v.0 o
  truth_answer b
is_prototype_of_value o v = truth_answer false

abbrev pub is_prototype_of : Value → List Value → Asks Answer
is_prototype_of this args = do
  o ← this_object this
  is_prototype_of_value o (argument args 0)

-- ---- Object.prototype.propertyIsEnumerable (V) (15.2.4.7)

abbrev pub is_enumerable : Option Attrs → Bool
is_enumerable None = false
is_enumerable (Some attributes) = not attributes.hidden

abbrev pub property_is_enumerable : Value → List Value → Asks Answer
property_is_enumerable this args = do
  o ← this_object this
  name ← unreserved (text_at args 0)
  attributes ← own o name
  truth_answer (is_enumerable attributes)

-- ---- Function.prototype.toString () (15.3.4.2)

-- the text of a function is not told
abbrev pub text_of_class : Class → Asks Answer
text_of_class class.Function = stop reason.FunctionText
text_of_class c = throw TypeError

abbrev pub function_to_string : Value → List Value → Asks Answer
function_to_string this args = do
  o ← this_object this
  c ← class_of o
  text_of_class c
