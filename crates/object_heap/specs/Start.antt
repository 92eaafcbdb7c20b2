-- The objects that are there at the start (ES3 15): of each its class, its prototype, and its
-- properties with values and attributes, in order. A property is DontEnum where its line says no
-- more.
use Rattle.std.specs.Prelude.{ℕ, List, [], ◌∷◌, ◌++◌, map, codes, Some, None}
use Rattle.js_values.specs.declared.number.Num.TheVariants.{NaN}
use Rattle.js_values.specs.declared.value.Value.{Value}
use Rattle.js_values.specs.declared.value.Value.TheVariants as value
use Rattle.object_heap.specs.declared.object.Class.{Class}
use Rattle.object_heap.specs.declared.object.Class.TheVariants as class
use Rattle.object_heap.specs.declared.built_in.BuiltIn.{BuiltIn}
use Rattle.object_heap.specs.declared.built_in.BuiltIn.TheVariants as built
use Rattle.object_heap.specs.Names.{Name, length_name, prototype_name, constructor_name}
use Rattle.object_heap.specs.Objects.{Property, Object, Heap}
use Rattle.object_heap.specs.Arrays.{whole}
use Rattle.object_heap.specs.Changes.{holding, hidden_only, hidden_and_fixed, all_three}
use Rattle.object_heap.specs.Changes.{first_properties}
use Rattle.object_heap.specs.BuiltIns.{number_of, built_ins}

-- ---- properties

abbrev pub the : BuiltIn → Value
the b = value.Object (record { 0 = number_of b })

-- DontEnum alone
abbrev pub hidden : Name → Value → Property
hidden name v = holding name v hidden_only

abbrev pub has : Name → BuiltIn → Property
has name b = hidden name (the b)

-- DontEnum and DontDelete, and not ReadOnly (ES3 15.1.1)
abbrev pub constant : Name → Value → Property
constant name v = holding name v hidden_and_fixed

-- ---- objects

abbrev pub behind : BuiltIn → Class → List Property → Object
behind prototype class properties =
    record { class = class; prototype = Some (number_of prototype); properties = properties }

abbrev pub object_with : Class → List Property → Object
object_with class properties = behind built.ObjectPrototype class properties

-- a function, whose `length` is ReadOnly, DontEnum and DontDelete (ES3 15)
abbrev pub function_with : ℕ → List Property → Object
function_with length properties =
    behind built.FunctionPrototype class.Function
    (holding length_name (whole length) all_three ∷ properties)

abbrev pub function : ℕ → Object
function length = function_with length []

-- a constructor, whose `length` is 1 and whose `prototype` has the same three attributes
abbrev pub constructor : BuiltIn → List Property → Object
constructor prototype properties =
    function_with 1 (holding prototype_name (the prototype) all_three ∷ properties)

abbrev pub error_properties : BuiltIn → Name → List Property
error_properties constructor name =
    has constructor_name constructor ∷ hidden (codes "name") (value.Str name)
    ∷ hidden (codes "message") (value.Str []) ∷ []

-- ---- the table

abbrev pub object : BuiltIn → Object
-- 15.2.4
object built.ObjectPrototype = record {
  class = class.Plain;
  prototype = None;
  properties = has constructor_name built.Object
      ∷ has (codes "toString") built.ObjectToString
      ∷ has (codes "valueOf") built.ObjectValueOf
      ∷ has (codes "hasOwnProperty") built.HasOwnProperty
      ∷ has (codes "isPrototypeOf") built.IsPrototypeOf
      ∷ has (codes "propertyIsEnumerable") built.PropertyIsEnumerable ∷ [];
}
-- 15.3.4; there is no Function that could be its constructor
object built.FunctionPrototype = object_with class.Function
    (holding length_name (whole 0) all_three
    ∷ hidden constructor_name value.Undefined
    ∷ has (codes "toString") built.FunctionToString
    ∷ has (codes "apply") built.Apply
    ∷ has (codes "call") built.Call ∷ [])
-- 15.4.4: an array itself
object built.ArrayPrototype = object_with class.Array
    (first_properties class.Array
    ++ has constructor_name built.Array
    ∷ has (codes "toString") built.ArrayToString
    ∷ has (codes "concat") built.ArrayConcat
    ∷ has (codes "join") built.Join
    ∷ has (codes "pop") built.Pop
    ∷ has (codes "push") built.Push
    ∷ has (codes "reverse") built.Reverse
    ∷ has (codes "shift") built.Shift
    ∷ has (codes "slice") built.ArraySlice
    ∷ has (codes "splice") built.Splice
    ∷ has (codes "unshift") built.Unshift ∷ [])
-- 15.5.4
object built.StringPrototype = object_with class.Plain
    (has constructor_name built.String
    ∷ has (codes "toString") built.StringToString
    ∷ has (codes "valueOf") built.StringValueOf
    ∷ has (codes "charAt") built.CharAt
    ∷ has (codes "charCodeAt") built.CharCodeAt
    ∷ has (codes "concat") built.StringConcat
    ∷ has (codes "indexOf") built.IndexOf
    ∷ has (codes "lastIndexOf") built.LastIndexOf
    ∷ has (codes "slice") built.StringSlice
    ∷ has (codes "split") built.Split
    ∷ has (codes "substring") built.Substring ∷ [])
-- 15.7.4
object built.NumberPrototype = object_with class.Plain
    (has constructor_name built.Number
    ∷ has (codes "toString") built.NumberToString
    ∷ has (codes "valueOf") built.NumberValueOf ∷ [])
-- 15.6.4
object built.BooleanPrototype = object_with class.Plain
    (has constructor_name built.Boolean
    ∷ has (codes "toString") built.BooleanToString
    ∷ has (codes "valueOf") built.BooleanValueOf ∷ [])
-- 15.11.4
object built.ErrorPrototype = object_with class.Error
    (error_properties built.Error (codes "Error")
    ++ has (codes "toString") built.ErrorToString ∷ [])
-- 15.11.7.7 to 15.11.7.10: `toString` is that of Error.prototype
object built.TypeErrorPrototype =
    behind built.ErrorPrototype class.Error
    (error_properties built.TypeError (codes "TypeError"))
object built.ReferenceErrorPrototype =
    behind built.ErrorPrototype class.Error
    (error_properties built.ReferenceError (codes "ReferenceError"))
object built.RangeErrorPrototype =
    behind built.ErrorPrototype class.Error
    (error_properties built.RangeError (codes "RangeError"))
-- 15.8
object built.Math = object_with class.Math
    (has (codes "abs") built.Abs
    ∷ has (codes "max") built.Max
    ∷ has (codes "min") built.Min
    ∷ has (codes "floor") built.Floor
    ∷ has (codes "ceil") built.Ceil
    ∷ has (codes "round") built.Round ∷ [])
-- Doloto's own; it gets a host call for each name that the page lists
object built.Host = object_with class.Plain (has (codes "on") built.On ∷ [])
-- 15.1
object built.Global = object_with class.Plain
    (constant (codes "NaN") (value.Num NaN)
    ∷ constant (codes "undefined") value.Undefined
    ∷ has (codes "Object") built.Object
    ∷ has (codes "Array") built.Array
    ∷ has (codes "String") built.String
    ∷ has (codes "Number") built.Number
    ∷ has (codes "Boolean") built.Boolean
    ∷ has (codes "Error") built.Error
    ∷ has (codes "TypeError") built.TypeError
    ∷ has (codes "ReferenceError") built.ReferenceError
    ∷ has (codes "RangeError") built.RangeError
    ∷ has (codes "Math") built.Math
    ∷ has (codes "parseInt") built.ParseInt
    ∷ has (codes "isNaN") built.IsNan
    ∷ has (codes "host") built.Host ∷ [])
-- 15.2.3
object built.Object = constructor built.ObjectPrototype []
-- 15.4.3
object built.Array = constructor built.ArrayPrototype []
-- 15.5.3
object built.String =
    constructor built.StringPrototype (has (codes "fromCharCode") built.FromCharCode ∷ [])
-- 15.7.3
object built.Number = constructor built.NumberPrototype []
-- 15.6.3
object built.Boolean = constructor built.BooleanPrototype []
-- 15.11.3
object built.Error = constructor built.ErrorPrototype []
-- 15.11.7.5
object built.TypeError = constructor built.TypeErrorPrototype []
object built.ReferenceError = constructor built.ReferenceErrorPrototype []
object built.RangeError = constructor built.RangeErrorPrototype []
-- 15.1.2.2, 15.1.2.4
object built.ParseInt = function 2
object built.IsNan = function 1
-- 15.2.4.2 to 15.2.4.7
object built.ObjectToString = function 0
object built.ObjectValueOf = function 0
object built.HasOwnProperty = function 1
object built.IsPrototypeOf = function 1
object built.PropertyIsEnumerable = function 1
-- 15.3.4.2 to 15.3.4.4
object built.FunctionToString = function 0
object built.Apply = function 2
object built.Call = function 1
-- 15.4.4.2 to 15.4.4.13
object built.ArrayToString = function 0
object built.ArrayConcat = function 1
object built.Join = function 1
object built.Pop = function 0
object built.Push = function 1
object built.Reverse = function 0
object built.Shift = function 0
object built.ArraySlice = function 2
object built.Splice = function 2
object built.Unshift = function 1
-- 15.5.3.2, 15.5.4.2 to 15.5.4.15
object built.FromCharCode = function 1
object built.StringToString = function 0
object built.StringValueOf = function 0
object built.CharAt = function 1
object built.CharCodeAt = function 1
object built.StringConcat = function 1
object built.IndexOf = function 1
object built.LastIndexOf = function 1
object built.StringSlice = function 2
object built.Split = function 2
object built.Substring = function 2
-- 15.7.4.2, 15.7.4.4
object built.NumberToString = function 1
object built.NumberValueOf = function 0
-- 15.6.4.2, 15.6.4.3
object built.BooleanToString = function 0
object built.BooleanValueOf = function 0
-- 15.11.4.4
object built.ErrorToString = function 0
-- 15.8.2
object built.Abs = function 1
object built.Max = function 2
object built.Min = function 2
object built.Floor = function 1
object built.Ceil = function 1
object built.Round = function 1
-- Doloto's own
object built.On = function 2

-- all of them, in the order of their numbers
abbrev pub heap_at_start : Heap
heap_at_start = map object built_ins
