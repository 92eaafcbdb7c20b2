-- What a value is as a boolean, as a number and as a text, and its type (ES3 9, 11.4.3).
use Rattle.std.specs.Prelude.{ℕ, Bool, true, false, not, if◌then◌else◌, pos, List, [], ◌∷◌}
use Rattle.std.specs.Prelude.{codes, Option, Some, None, Result, Ok}
use Rattle.js_values.specs.declared.number.Num.{Num}
use Rattle.js_values.specs.declared.number.Num.TheVariants as number
use Rattle.js_values.specs.declared.reason.Reason.{Reason}
use Rattle.js_values.specs.declared.value.Value.{Value}
use Rattle.js_values.specs.declared.value.Value.TheVariants as value
use Rattle.js_values.specs.Numbers.{is_zero}
use Rattle.js_values.specs.Numerals.{number_text}
use Rattle.js_values.specs.NumberTexts.{number_of_text}

-- a value that is no object
abbrev pub IsPrimitive : Value → Type 0
IsPrimitive value.Undefined = Unit {0}
IsPrimitive value.Null = Unit {0}
IsPrimitive (value.Bool b) = Unit {0}
IsPrimitive (value.Num n) = Unit {0}
IsPrimitive (value.Str text) = Unit {0}
IsPrimitive (value.Object o) = ⊥

-- ---- ToBoolean (ES3 9.2)

abbrev pub truth_of_number : Num → Bool
truth_of_number number.NaN = false
truth_of_number (number.Whole z) = not (is_zero z)

abbrev pub truth_of_text : List ℕ → Bool
truth_of_text [] = false
truth_of_text (c ∷ cs) = true

abbrev pub truth_of : Value → Bool
truth_of value.Undefined = false
truth_of value.Null = false
truth_of (value.Bool b) = b
truth_of (value.Num n) = truth_of_number n
truth_of (value.Str text) = truth_of_text text
truth_of (value.Object o) = true

-- ---- ToNumber (ES3 9.3): None for an object, which is made a primitive first

abbrev pub number_of_bool : Bool → Num
number_of_bool b = if b then number.Whole (pos 1) else number.Whole (pos 0)

abbrev pub number_of : Value → Option (Result Num Reason)
number_of value.Undefined = Some (Ok number.NaN)
number_of value.Null = Some (Ok (number.Whole (pos 0)))
number_of (value.Bool b) = Some (Ok (number_of_bool b))
number_of (value.Num n) = Some (Ok n)
number_of (value.Str text) = Some (number_of_text text)
number_of (value.Object o) = None

-- ---- ToString (ES3 9.8): None for an object likewise

abbrev pub text_of_bool : Bool → List ℕ
text_of_bool b = if b then codes "true" else codes "false"

abbrev pub text_of : Value → Option (List ℕ)
text_of value.Undefined = Some (codes "undefined")
text_of value.Null = Some (codes "null")
text_of (value.Bool b) = Some (text_of_bool b)
text_of (value.Num n) = Some (number_text 10 n)
text_of (value.Str text) = Some text
text_of (value.Object o) = None

-- ---- typeof (ES3 11.4.3)

-- of an object that is a function or not
abbrev pub object_type : Bool → List ℕ
object_type is_function = if is_function then codes "function" else codes "object"

abbrev pub type_of : Bool → Value → List ℕ
type_of is_function value.Undefined = codes "undefined"
type_of is_function value.Null = codes "object"
type_of is_function (value.Bool b) = codes "boolean"
type_of is_function (value.Num n) = codes "number"
type_of is_function (value.Str text) = codes "string"
type_of is_function (value.Object o) = object_type is_function
