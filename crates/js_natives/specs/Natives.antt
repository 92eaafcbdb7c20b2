-- The table of the natives (ES3 15): how each takes its `this` and its arguments, and what it does.
use Rattle.std.specs.Prelude.{List, [], ◌∷◌, Option, Some, None}
use Rattle.js_values.specs.declared.value.Value.{Value}
use Rattle.object_heap.specs.declared.built_in.BuiltIn.{BuiltIn}
use Rattle.object_heap.specs.declared.built_in.BuiltIn.TheVariants as built
use Rattle.js_natives.specs.declared.native.Native.{Native}
use Rattle.js_natives.specs.declared.native.Native.TheVariants as native
use Rattle.js_natives.specs.declared.answer.Answer.{Answer}
use Rattle.js_natives.specs.Program.{Program}
use Rattle.js_natives.specs.Asks.{Asks, ended, undefined_answer}
use Rattle.js_natives.specs.Convert.{Takes, takes, takes_all, converting}
use Rattle.js_natives.specs.Convert.{Unseen, AnObject, ATruth, ANumber, AText, MadeText}
use Rattle.js_natives.specs.Convert.{ToText, ToNumber, ToTextIfAny, ToNumberIfAny}
use Rattle.js_natives.specs.Objects as objects
use Rattle.js_natives.specs.Arrays as arrays
use Rattle.js_natives.specs.Moves as moves
use Rattle.js_natives.specs.Strings as strings
use Rattle.js_natives.specs.Numbers as numbers
use Rattle.js_natives.specs.MathNatives as math
use Rattle.js_natives.specs.Errors as errors
use Rattle.js_natives.specs.Globals as globals

-- ---- what each does

pub data Plan : Type 0 where
  -- `this` and the arguments are converted, and then comes a row, which asks the heap alone (that of
  -- `on` listens). It looks at `this` again, so that it stands by itself.
  Converts : (takes : Takes) → (row : Value → List Value → Asks Answer) → Plan
  -- it converts what it needs as it goes
  Goes : (program : Value → List Value → Asks Answer) → Plan
  -- it enters a function, so the machine has it
  Enters : Plan

abbrev pub plan_of : Native → Plan
-- 15.1.2.2, 15.1.2.4
plan_of native.ParseInt = Converts (takes Unseen (ToText ∷ ToNumber ∷ [])) globals.parse_int
plan_of native.IsNan = Converts (takes Unseen (ToNumber ∷ [])) globals.is_nan
-- 15.2.1.1, 15.2.2.1
plan_of native.Object = Converts (takes Unseen []) objects.object
-- 15.2.4.2, 15.2.4.4 to 15.2.4.7
plan_of native.ObjectToString = Converts (takes AnObject []) objects.object_to_string
plan_of native.ObjectValueOf = Converts (takes AnObject []) objects.object_value_of
plan_of native.HasOwnProperty = Converts (takes AnObject (ToText ∷ [])) objects.has_own_property
plan_of native.IsPrototypeOf = Converts (takes AnObject []) objects.is_prototype_of
plan_of native.PropertyIsEnumerable =
    Converts (takes AnObject (ToText ∷ [])) objects.property_is_enumerable
-- 15.3.4.2 to 15.3.4.4
plan_of native.FunctionToString = Converts (takes AnObject []) objects.function_to_string
plan_of native.Apply = Enters
plan_of native.Call = Enters
-- 15.4.1.1, 15.4.2.1, 15.4.2.2
plan_of native.Array = Converts (takes Unseen []) arrays.array
-- 15.4.4.2, 15.4.4.4 to 15.4.4.7
plan_of native.ArrayToString = Goes arrays.array_to_string
plan_of native.ArrayConcat = Goes arrays.concat
plan_of native.Join = Goes arrays.join
plan_of native.Pop = Goes arrays.pop
plan_of native.Push = Goes arrays.push
-- 15.4.4.8 to 15.4.4.10, 15.4.4.12, 15.4.4.13
plan_of native.Reverse = Goes moves.reverse
plan_of native.Shift = Goes moves.shift
plan_of native.ArraySlice = Goes moves.slice
plan_of native.Splice = Goes moves.splice
plan_of native.Unshift = Goes moves.unshift
-- 15.5.1.1, 15.5.2.1, 15.5.3.2
plan_of native.String = Converts (takes Unseen (ToText ∷ [])) strings.string
plan_of native.NewString = Converts (takes Unseen []) strings.new_wrapper
plan_of native.FromCharCode = Converts (takes_all Unseen ToNumber) strings.from_char_code
-- 15.5.4.2 to 15.5.4.8
plan_of native.StringToString = Converts (takes AText []) strings.string_value
plan_of native.StringValueOf = Converts (takes AText []) strings.string_value
plan_of native.CharAt = Converts (takes MadeText (ToNumber ∷ [])) strings.char_at
plan_of native.CharCodeAt = Converts (takes MadeText (ToNumber ∷ [])) strings.char_code_at
plan_of native.StringConcat = Converts (takes_all MadeText ToText) strings.string_concat
plan_of native.IndexOf = Converts (takes MadeText (ToText ∷ ToNumber ∷ [])) strings.index_of
plan_of native.LastIndexOf =
    Converts (takes MadeText (ToText ∷ ToNumber ∷ [])) strings.last_index_of
-- 15.5.4.13 to 15.5.4.15
plan_of native.StringSlice =
    Converts (takes MadeText (ToNumber ∷ ToNumberIfAny ∷ [])) strings.string_slice
plan_of native.Split = Goes strings.split
plan_of native.Substring =
    Converts (takes MadeText (ToNumber ∷ ToNumberIfAny ∷ [])) strings.substring
-- 15.6.1.1, 15.6.2.1, 15.6.4.2, 15.6.4.3
plan_of native.Boolean = Converts (takes Unseen []) numbers.boolean
plan_of native.NewBoolean = Converts (takes Unseen []) strings.new_wrapper
plan_of native.BooleanToString = Converts (takes ATruth []) numbers.boolean_to_string
plan_of native.BooleanValueOf = Converts (takes ATruth []) numbers.boolean_value_of
-- 15.7.1.1, 15.7.2.1, 15.7.4.2, 15.7.4.4
plan_of native.Number = Converts (takes Unseen (ToNumber ∷ [])) numbers.number_function
plan_of native.NewNumber = Converts (takes Unseen []) strings.new_wrapper
plan_of native.NumberToString =
    Converts (takes ANumber (ToNumberIfAny ∷ [])) numbers.number_to_string
plan_of native.NumberValueOf = Converts (takes ANumber []) numbers.number_value_of
-- 15.8.2.1, 15.8.2.6, 15.8.2.9, 15.8.2.11, 15.8.2.12, 15.8.2.15
plan_of native.Abs = Converts (takes Unseen (ToNumber ∷ [])) math.abs
plan_of native.Ceil = Converts (takes Unseen (ToNumber ∷ [])) math.as_number
plan_of native.Floor = Converts (takes Unseen (ToNumber ∷ [])) math.as_number
plan_of native.Max = Converts (takes_all Unseen ToNumber) math.greatest
plan_of native.Min = Converts (takes_all Unseen ToNumber) math.least
plan_of native.Round = Converts (takes Unseen (ToNumber ∷ [])) math.as_number
-- 15.11.1.1, 15.11.2.1, 15.11.7.2, 15.11.7.4
plan_of native.Error =
    Converts (takes Unseen (ToTextIfAny ∷ [])) (errors.error built.ErrorPrototype)
plan_of native.TypeError =
    Converts (takes Unseen (ToTextIfAny ∷ [])) (errors.error built.TypeErrorPrototype)
plan_of native.ReferenceError =
    Converts (takes Unseen (ToTextIfAny ∷ [])) (errors.error built.ReferenceErrorPrototype)
plan_of native.RangeError =
    Converts (takes Unseen (ToTextIfAny ∷ [])) (errors.error built.RangeErrorPrototype)
-- 15.11.4.4
plan_of native.ErrorToString = Goes errors.error_to_string
-- Doloto's own
plan_of native.On = Converts (takes Unseen (ToText ∷ [])) globals.on

-- a native with its `this` and its arguments; nothing is said here of those that the machine has
abbrev pub planned : Plan → Value → List Value → Asks Answer
planned (Converts takes row) this args = converting takes this args row
planned (Goes program) this args = program this args
planned Enters this args = undefined_answer

abbrev pub program_of : Native → Value → List Value → Program
program_of n this args = ended (planned (plan_of n) this args)

-- ---- which native a built-in function is

-- when it is called, and when it is called by `new`; none for what is no function, and for a
-- function that is no constructor
pub record Calls : Type 0 where
  pub called : Option Native
  pub constructed : Option Native

abbrev pub no_function : Calls
no_function = record { called = None; constructed = None }

abbrev pub function : Native → Calls
function n = record { called = Some n; constructed = None }

-- it does the same both ways
abbrev pub constructor : Native → Calls
constructor n = record { called = Some n; constructed = Some n }

abbrev pub two_ways : Native → Native → Calls
two_ways called constructed = record { called = Some called; constructed = Some constructed }

abbrev pub calls_of : BuiltIn → Calls
calls_of built.ObjectPrototype = no_function
calls_of built.FunctionPrototype = no_function
calls_of built.ArrayPrototype = no_function
calls_of built.StringPrototype = no_function
calls_of built.NumberPrototype = no_function
calls_of built.BooleanPrototype = no_function
calls_of built.ErrorPrototype = no_function
calls_of built.TypeErrorPrototype = no_function
calls_of built.ReferenceErrorPrototype = no_function
calls_of built.RangeErrorPrototype = no_function
calls_of built.Math = no_function
calls_of built.Host = no_function
calls_of built.Global = no_function
calls_of built.Object = constructor native.Object
calls_of built.Array = constructor native.Array
calls_of built.String = two_ways native.String native.NewString
calls_of built.Number = two_ways native.Number native.NewNumber
calls_of built.Boolean = two_ways native.Boolean native.NewBoolean
calls_of built.Error = constructor native.Error
calls_of built.TypeError = constructor native.TypeError
calls_of built.ReferenceError = constructor native.ReferenceError
calls_of built.RangeError = constructor native.RangeError
calls_of built.ParseInt = function native.ParseInt
calls_of built.IsNan = function native.IsNan
calls_of built.ObjectToString = function native.ObjectToString
calls_of built.ObjectValueOf = function native.ObjectValueOf
calls_of built.HasOwnProperty = function native.HasOwnProperty
calls_of built.IsPrototypeOf = function native.IsPrototypeOf
calls_of built.PropertyIsEnumerable = function native.PropertyIsEnumerable
calls_of built.FunctionToString = function native.FunctionToString
calls_of built.Apply = function native.Apply
calls_of built.Call = function native.Call
calls_of built.ArrayToString = function native.ArrayToString
calls_of built.ArrayConcat = function native.ArrayConcat
calls_of built.Join = function native.Join
calls_of built.Pop = function native.Pop
calls_of built.Push = function native.Push
calls_of built.Reverse = function native.Reverse
calls_of built.Shift = function native.Shift
calls_of built.ArraySlice = function native.ArraySlice
calls_of built.Splice = function native.Splice
calls_of built.Unshift = function native.Unshift
calls_of built.FromCharCode = function native.FromCharCode
calls_of built.StringToString = function native.StringToString
calls_of built.StringValueOf = function native.StringValueOf
calls_of built.CharAt = function native.CharAt
calls_of built.CharCodeAt = function native.CharCodeAt
calls_of built.StringConcat = function native.StringConcat
calls_of built.IndexOf = function native.IndexOf
calls_of built.LastIndexOf = function native.LastIndexOf
calls_of built.StringSlice = function native.StringSlice
calls_of built.Split = function native.Split
calls_of built.Substring = function native.Substring
calls_of built.NumberToString = function native.NumberToString
calls_of built.NumberValueOf = function native.NumberValueOf
calls_of built.BooleanToString = function native.BooleanToString
calls_of built.BooleanValueOf = function native.BooleanValueOf
calls_of built.ErrorToString = function native.ErrorToString
calls_of built.Abs = function native.Abs
calls_of built.Max = function native.Max
calls_of built.Min = function native.Min
calls_of built.Floor = function native.Floor
calls_of built.Ceil = function native.Ceil
calls_of built.Round = function native.Round
calls_of built.On = function native.On
