-- Conversions of values, which for an object may call its functions (ES3 8.6.2.6, 9).
use Rattle.std.specs.Prelude.{ℕ, ◌^◌, nat_le, if◌then◌else◌, List, [], length, codes}
use Rattle.std.specs.Prelude.{Option, Some, None, Result, Ok, Err}
use Rattle.js_values.specs.declared.number.Num.{Num}
use Rattle.js_values.specs.declared.number.Num.TheVariants as number
use Rattle.js_values.specs.declared.reason.Reason.{Reason}
use Rattle.js_values.specs.declared.reason.Reason.TheVariants as reason
use Rattle.js_values.specs.declared.value.Value.{Value}
use Rattle.js_values.specs.declared.value.Value.TheVariants as value
use Rattle.js_values.specs.Values as values
use Rattle.object_heap.specs.Names.{Name, is_reserved}
use Rattle.js_machine.specs.Asks.{Program, Enter, Stop}
use Rattle.js_machine.specs.State.{object_value}
use Rattle.js_machine.specs.Frames.{Asks, ◌>>=◌, on_value}
use Rattle.js_machine.specs.References.{get, throws_type_error}

-- ---- stops

abbrev pub or_stop : {A : Type 0} → Result A Reason → Asks A
or_stop (Ok a) k = k a
or_stop (Err stop) k = Stop stop

-- a text that would have more than 2^26 units stops
abbrev pub text_or_stop : List ℕ → Asks (List ℕ)
text_or_stop text k = if nat_le (length text) (2 ^ 26) then k text else Stop reason.LongText

-- ---- 8.6.2.6 [[DefaultValue]]

pub data Hint : Type 0 where
  HintString : Hint
  HintNumber : Hint

-- a primitive value is the result; where it is an object, what is tried next
abbrev pub on_primitive : (Value → Program) → Program → Value → Program
on_primitive k next (value.Object o) = next
on_primitive k next v = k v

-- the method is called where it is an object, which throws a TypeError where that is no function
abbrev pub by_result : ℕ → (Value → Program) → Program → Value → Program
by_result o k next (value.Object f) =
    Enter (value.Object f) (object_value o) [] (on_value (on_primitive k next))
by_result o k next v = next

abbrev pub by_method : Name → ℕ → (Value → Program) → Program → Program
by_method name o k next = do
  method ← get o name
  by_result o k next method

abbrev pub to_string_name : Name
to_string_name = codes "toString"

abbrev pub value_of_name : Name
value_of_name = codes "valueOf"

abbrev pub default_value : Hint → ℕ → Asks Value
default_value HintString o k =
    by_method to_string_name o k (by_method value_of_name o k throws_type_error)
default_value HintNumber o k =
    by_method value_of_name o k (by_method to_string_name o k throws_type_error)

-- ---- 9.1 ToPrimitive; without a hint the hint is Number, since there are no dates

abbrev pub to_primitive : Hint → Value → Asks Value
to_primitive hint (value.Object o) k = default_value hint o.0 k
to_primitive hint v k = k v

-- ---- 9.3 ToNumber

abbrev pub primitive_number : Option (Result Num Reason) → Asks Num
primitive_number (Some n) k = or_stop n k
-- of an object, which no primitive value is
primitive_number None k = k number.NaN

abbrev pub to_number : Value → Asks Num
to_number v k = do
  primitive ← to_primitive HintNumber v
  primitive_number (values.number_of primitive) k

-- ---- 9.8 ToString

abbrev pub primitive_text : Option (List ℕ) → List ℕ
primitive_text (Some text) = text
-- of an object, which no primitive value is
primitive_text None = []

abbrev pub to_text : Value → Asks (List ℕ)
to_text v k = do
  primitive ← to_primitive HintString v
  k (primitive_text (values.text_of primitive))

-- ---- 9.9 ToObject: a primitive value stands for its object

abbrev pub to_object : Value → Program → Program
to_object value.Undefined p = throws_type_error
to_object value.Null p = throws_type_error
to_object v p = p

-- ---- a computed property name (11.2.1): one that begins with `$dl_` stops

abbrev pub to_name : Value → Asks Name
to_name v k = do
  name ← to_text v
  if is_reserved name then Stop reason.ReservedName else k name
