-- Number and Boolean, with their prototypes (ES3 15.7, 15.6).
use Rattle.std.specs.Prelude.{◌&&◌, nat_le, if◌then◌else◌, ℤ, pos, negsuc, List, [], ◌∷◌}
use Rattle.js_values.specs.declared.number.Num.{Num}
use Rattle.js_values.specs.declared.value.Value.{Value}
use Rattle.js_values.specs.declared.value.Value.TheVariants as value
use Rattle.js_values.specs.Numerals.{number_text}
use Rattle.js_values.specs.Values.{text_of_bool, truth_of}
use Rattle.js_natives.specs.declared.answer.ErrorKind.TheVariants.{RangeError}
use Rattle.js_natives.specs.declared.answer.Answer.{Answer}
use Rattle.js_natives.specs.Asks.{Asks, ◌>>=◌, throw, number_answer, text_answer, whole_answer}
use Rattle.js_natives.specs.Asks.{truth_answer}
use Rattle.js_natives.specs.This.{this_number, this_truth}
use Rattle.js_natives.specs.Convert.{argument, integer_of, number_in}

-- ---- Number ([value]) (15.7.1.1)

abbrev pub number_function : Value → List Value → Asks Answer
number_function this [] = whole_answer 0
number_function this (v ∷ vs) = number_answer (number_in v)

-- ---- Number.prototype.toString (radix) (15.7.4.2)

abbrev pub text_in_radix : ℤ → Num → Asks Answer
text_in_radix (pos radix) n =
    if nat_le 2 radix && nat_le radix 36 then text_answer (number_text radix n)
    else throw RangeError
text_in_radix (negsuc radix) n = throw RangeError

-- in ten where the radix is undefined; any other has been made a number
abbrev pub radix_of : Value → ℤ
radix_of (value.Num n) = integer_of n
radix_of v = pos 10

abbrev pub number_to_string : Value → List Value → Asks Answer
number_to_string this args = do
  n ← this_number this
  text_in_radix (radix_of (argument args 0)) n

-- ---- Number.prototype.valueOf () (15.7.4.4)

abbrev pub number_value_of : Value → List Value → Asks Answer
number_value_of this args = do
  n ← this_number this
  number_answer n

-- ---- Boolean ([value]) (15.6.1.1)

abbrev pub boolean : Value → List Value → Asks Answer
boolean this args = truth_answer (truth_of (argument args 0))

-- ---- Boolean.prototype.toString () (15.6.4.2)

abbrev pub boolean_to_string : Value → List Value → Asks Answer
boolean_to_string this args = do
  b ← this_truth this
  text_answer (text_of_bool b)

-- ---- Boolean.prototype.valueOf () (15.6.4.3)

abbrev pub boolean_value_of : Value → List Value → Asks Answer
boolean_value_of this args = do
  b ← this_truth this
  truth_answer b
