-- The functions of the global object (ES3 15.1.2), and `on` of `host`.
use Rattle.std.specs.Prelude.{ℕ, ◌==◌, ◌&&◌, ◌||◌, nat_le, nat_lt, Bool, true, false}
use Rattle.std.specs.Prelude.{if◌then◌else◌, ℤ, pos, negsuc, neg_ℤ, List, [], ◌∷◌, take_while}
use Rattle.std.specs.Prelude.{Result, Ok, Err}
use Rattle.std.specs.Char.{digit_value}
use Rattle.std.specs.Str.Parse.{digits_value}
use Rattle.js_values.specs.declared.number.Num.{Num}
use Rattle.js_values.specs.declared.number.Num.TheVariants.{NaN, Whole}
use Rattle.js_values.specs.declared.reason.Reason.{Reason}
use Rattle.js_values.specs.declared.value.Value.{Value}
use Rattle.js_values.specs.declared.value.Value.TheVariants as value
use Rattle.js_values.specs.Integers.{int32_of}
use Rattle.js_values.specs.Numbers.{whole_or_stop}
use Rattle.js_values.specs.NumberTexts.{behind, is_blank, is_negative, without_sign, behind_prefix}
use Rattle.object_heap.specs.declared.object.Class.{Class}
use Rattle.object_heap.specs.declared.object.Class.TheVariants as class
use Rattle.object_heap.specs.Names.{Name}
use Rattle.js_natives.specs.declared.answer.ErrorKind.TheVariants.{TypeError}
use Rattle.js_natives.specs.declared.answer.Answer.{Answer}
use Rattle.js_natives.specs.Asks.{Asks, ◌>>=◌, ◌>>◌, class_of, listen, stop, throw}
use Rattle.js_natives.specs.Asks.{number_answer, truth_answer, undefined_answer}
use Rattle.js_natives.specs.Convert.{argument, text_at, number_at}

-- ---- parseInt (string, radix) (15.1.2.2)

-- step 14: the digits at the front
abbrev pub digits_in : ℕ → Name → Name
digits_in radix s = take_while (λ c. nat_lt (digit_value c) radix) s

-- steps 16 to 18
abbrev pub signed_value : Bool → ℕ → ℤ
signed_value negative n = if negative then neg_ℤ (pos n) else pos n

abbrev pub number_or_stop : Result Num Reason → Asks Answer
number_or_stop (Ok n) = number_answer n
number_or_stop (Err reason) = stop reason

-- steps 15 to 18
abbrev pub number_of_digits : Bool → ℕ → Name → Asks Answer
number_of_digits negative radix [] = number_answer NaN
number_of_digits negative radix (c ∷ cs) =
    number_or_stop (whole_or_stop (signed_value negative (digits_value radix (c ∷ cs))))

-- steps 14 to 18
abbrev pub digits_number : Bool → ℕ → Name → Asks Answer
digits_number negative radix s = number_of_digits negative radix (digits_in radix s)

-- step 13: whether `0x` or `0X` stands at the front
abbrev pub has_prefix : Name → Bool
has_prefix [] = false
has_prefix (c ∷ []) = false
has_prefix (c ∷ (x ∷ cs)) = (c == 48) && ((x == 120) || (x == 88))

-- steps 13 to 18: in sixteen behind that prefix, and in the radix without it
abbrev pub perhaps_hexadecimal : Bool → ℕ → Name → Asks Answer
perhaps_hexadecimal negative radix s =
    if has_prefix s then digits_number negative 16 (behind_prefix s)
    else digits_number negative radix s

-- steps 7 to 12: a radix of 0 is ten, and the prefix may stand there and in sixteen alone; `0` in
-- front has no meaning
abbrev pub by_radix : Bool → ℤ → Name → Asks Answer
by_radix negative (negsuc radix) s = number_answer NaN
by_radix negative (pos radix) s =
    if radix == 0 then perhaps_hexadecimal negative 10 s
    else if radix == 16 then perhaps_hexadecimal negative 16 s
    else if nat_le 2 radix && nat_le radix 36 then digits_number negative radix s
    else number_answer NaN

-- steps 2 to 6
abbrev pub parsed : Name → Num → Asks Answer
parsed s radix = by_radix (is_negative s) (int32_of radix) (without_sign s)

abbrev pub parse_int : Value → List Value → Asks Answer
parse_int this args = parsed (behind is_blank (text_at args 0)) (number_at args 1)

-- ---- isNaN (number) (15.1.2.4)

abbrev pub is_not_a_number : Num → Bool
is_not_a_number NaN = true
is_not_a_number (Whole z) = false

abbrev pub is_nan : Value → List Value → Asks Answer
is_nan this args = truth_answer (is_not_a_number (number_at args 0))

-- ---- host.on (type, f): the type has been made a text

abbrev pub listening : Class → Name → ℕ → Asks Answer
listening class.Function event o = do
  listen event o
  undefined_answer
listening c event o = throw TypeError

abbrev pub listening_by : Value → Name → Asks Answer
listening_by (value.Object o) event = do
  c ← class_of o.0
  listening c event o.0
listening_by v event = throw TypeError

abbrev pub on : Value → List Value → Asks Answer
on this args = listening_by (argument args 1) (text_at args 0)
