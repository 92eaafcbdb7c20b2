-- How natives convert `this` and their arguments: `this` first, and then the arguments that there
-- are, from the left.
use Rattle.std.specs.Prelude.{ℕ, suc, ◌-◌, ◌%◌, ◌^◌, min, ℤ, pos, negsuc, List, [], ◌∷◌, codes}
use Rattle.std.specs.Prelude.{length, slice_get, unwrap_or}
use Rattle.js_values.specs.declared.number.Num.{Num}
use Rattle.js_values.specs.declared.number.Num.TheVariants.{NaN, Whole}
use Rattle.js_values.specs.declared.value.Value.{Value}
use Rattle.js_values.specs.declared.value.Value.TheVariants as value
use Rattle.js_values.specs.Integers.{uint32_of}
use Rattle.object_heap.specs.Names.{Name}
use Rattle.js_natives.specs.Asks.{Asks, ◌>>=◌, pure, text, number, the_object}
use Rattle.js_natives.specs.This.{this_object, this_truth, this_number, this_text, this_value}

-- ---- how each is taken

-- `this` is not looked at, is to be an object, a boolean, a number or a text, or is made a text
pub data This : Type 0 where
  Unseen : This
  AnObject : This
  ATruth : This
  ANumber : This
  AText : This
  MadeText : This

-- an argument stays as it is, or is made a text or a number, the last two where it is not undefined
pub data Kind : Type 0 where
  Kept : Kind
  ToText : Kind
  ToNumber : Kind
  ToTextIfAny : Kind
  ToNumberIfAny : Kind

-- the arguments in order, and those behind them
pub record Takes : Type 0 where
  pub this : This
  pub arguments : List Kind
  pub others : Kind

-- those behind these are not looked at
abbrev pub takes : This → List Kind → Takes
takes this arguments = record { this = this; arguments = arguments; others = Kept }

-- all alike
abbrev pub takes_all : This → Kind → Takes
takes_all this kind = record { this = this; arguments = []; others = kind }

-- ---- the conversions

abbrev pub this_converted : This → Value → Asks Value
this_converted Unseen v = pure v
this_converted AnObject v = do
  o ← this_object v
  pure (the_object o)
this_converted ATruth v = do
  b ← this_truth v
  pure (value.Bool b)
this_converted ANumber v = do
  n ← this_number v
  pure (value.Num n)
this_converted AText v = do
  s ← this_text v
  pure (value.Str s)
this_converted MadeText v = do
  s ← text (this_value v)
  pure (value.Str s)

abbrev pub made_text_of : Value → Asks Value
made_text_of v = do
  s ← text v
  pure (value.Str s)

abbrev pub made_number_of : Value → Asks Value
made_number_of v = do
  n ← number v
  pure (value.Num n)

-- a value that is undefined stays so
abbrev pub if_any : (Value → Asks Value) → Value → Asks Value
if_any convert value.Undefined = pure value.Undefined
if_any convert v = convert v

abbrev pub argument_converted : Kind → Value → Asks Value
argument_converted Kept v = pure v
argument_converted ToText v = made_text_of v
argument_converted ToNumber v = made_number_of v
argument_converted ToTextIfAny v = if_any made_text_of v
argument_converted ToNumberIfAny v = if_any made_number_of v

abbrev pub arguments_converted : List Kind → Kind → List Value → Asks (List Value)
arguments_converted kinds others [] = pure []
arguments_converted [] others (v ∷ vs) = do
  u ← argument_converted others v
  us ← arguments_converted [] others vs
  pure (u ∷ us)
arguments_converted (kind ∷ kinds) others (v ∷ vs) = do
  u ← argument_converted kind v
  us ← arguments_converted kinds others vs
  pure (u ∷ us)

-- a native whose row comes once all are converted
abbrev pub converting
    : {A : Type 0} → Takes → Value → List Value → (Value → List Value → Asks A) → Asks A
converting takes this args row = do
  this ← this_converted takes.this this
  args ← arguments_converted takes.arguments takes.others args
  row this args

-- ---- arguments

abbrev pub count_of : List Value → ℕ
count_of args = length args

-- a missing argument is undefined
abbrev pub argument : List Value → ℕ → Value
argument args i = unwrap_or (slice_get args i) value.Undefined

-- the text that an argument was made, which for a missing argument is that of undefined
abbrev pub text_in : Value → Name
text_in (value.Str s) = s
text_in v = codes "undefined"

abbrev pub text_at : List Value → ℕ → Name
text_at args i = text_in (argument args i)

-- the number that one was made, which for a missing argument is that of undefined
abbrev pub number_in : Value → Num
number_in (value.Num n) = n
number_in v = NaN

abbrev pub number_at : List Value → ℕ → Num
number_at args i = number_in (argument args i)

-- ---- ToInteger and ToUint16 (9.4, 9.7)

abbrev pub integer_of : Num → ℤ
integer_of NaN = pos 0
integer_of (Whole z) = z

abbrev pub integer_at : List Value → ℕ → ℤ
integer_at args i = integer_of (number_at args i)

abbrev pub uint16_of : Num → ℕ
uint16_of n = uint32_of n % 2 ^ 16

-- ---- positions, of which there are as many as the length tells, and one more. A difference of two
-- is 0 where it would be negative.

-- one that counts from the end where it is negative (15.4.4.10, 15.4.4.12, 15.5.4.13)
abbrev pub from_either_end : ℤ → ℕ → ℕ
from_either_end (pos n) length = min n length
from_either_end (negsuc n) length = length - suc n

-- one that is 0 where it is negative (15.5.4.7, 15.5.4.8, 15.5.4.15)
abbrev pub within : ℤ → ℕ → ℕ
within (pos n) length = min n length
within (negsuc n) length = 0
