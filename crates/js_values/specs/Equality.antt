-- `===` and `==` (ES3 11.9.6, 11.9.3).
use Rattle.std.specs.Prelude.{ℕ, nat_eq, ◌==◌, Bool, true, false, not, List}
use Rattle.std.specs.Prelude.{Option, Some, None, Result, Ok, Err}
use Rattle.std.specs.Ordering.{int_eq}
use Rattle.std.specs.Cmp.Lexicographic.{pointwise}
use Rattle.js_values.specs.declared.number.Num.{Num}
use Rattle.js_values.specs.declared.number.Num.TheVariants as number
use Rattle.js_values.specs.declared.reason.Reason.{Reason}
use Rattle.js_values.specs.declared.value.Value.{Value}
use Rattle.js_values.specs.declared.value.Value.TheVariants as value
use Rattle.js_values.specs.NumberTexts.{number_of_text}
use Rattle.js_values.specs.Values.{number_of_bool}

abbrev pub same_bool : Bool → Bool → Bool
same_bool true b = b
same_bool false b = not b

-- NaN is the same as no number
abbrev pub same_number : Num → Num → Bool
same_number number.NaN b = false
same_number (number.Whole a) number.NaN = false
same_number (number.Whole a) (number.Whole b) = int_eq a b

-- ---- `===`

abbrev pub same_value : Value → Value → Bool
same_value value.Undefined value.Undefined = true
same_value value.Null value.Null = true
same_value (value.Bool a) (value.Bool b) = same_bool a b
same_value (value.Num a) (value.Num b) = same_number a b
same_value (value.Str a) (value.Str b) = pointwise nat_eq a b
same_value (value.Object a) (value.Object b) = a.0 == b.0
same_value a b = false

-- ---- `==`: None where one of the two is an object, which may have to be made a primitive first

-- the comparison of a number with what a text is as a number
abbrev pub compared : Num → Result Num Reason → Result Bool Reason
compared a (Ok b) = Ok (same_number a b)
compared a (Err stop) = Err stop

-- with undefined or null
abbrev pub equals_nothing : Value → Option (Result Bool Reason)
equals_nothing value.Undefined = Some (Ok true)
equals_nothing value.Null = Some (Ok true)
equals_nothing (value.Bool b) = Some (Ok false)
equals_nothing (value.Num b) = Some (Ok false)
equals_nothing (value.Str b) = Some (Ok false)
equals_nothing (value.Object b) = None

-- with a number
abbrev pub equals_number : Num → Value → Option (Result Bool Reason)
equals_number a value.Undefined = Some (Ok false)
equals_number a value.Null = Some (Ok false)
equals_number a (value.Bool b) = Some (Ok (same_number a (number_of_bool b)))
equals_number a (value.Num b) = Some (Ok (same_number a b))
equals_number a (value.Str b) = Some (compared a (number_of_text b))
equals_number a (value.Object b) = None

-- with a text
abbrev pub equals_text : List ℕ → Value → Option (Result Bool Reason)
equals_text a value.Undefined = Some (Ok false)
equals_text a value.Null = Some (Ok false)
equals_text a (value.Bool b) = Some (compared (number_of_bool b) (number_of_text a))
equals_text a (value.Num b) = Some (compared b (number_of_text a))
equals_text a (value.Str b) = Some (Ok (pointwise nat_eq a b))
equals_text a (value.Object b) = None

abbrev pub equal_of : Value → Value → Option (Result Bool Reason)
equal_of value.Undefined b = equals_nothing b
equal_of value.Null b = equals_nothing b
equal_of (value.Bool a) b = equals_number (number_of_bool a) b
equal_of (value.Num a) b = equals_number a b
equal_of (value.Str a) b = equals_text a b
equal_of (value.Object a) b = None
