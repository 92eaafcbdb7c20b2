-- Math (ES3 15.8.2). The arguments have been converted by ToNumber.
use Rattle.std.specs.Prelude.{pos, unsigned_abs, int_lt, if◌then◌else◌, List, [], ◌∷◌}
use Rattle.js_values.specs.declared.number.Num.{Num}
use Rattle.js_values.specs.declared.number.Num.TheVariants.{NaN, Whole}
use Rattle.js_values.specs.declared.reason.Reason.TheVariants.{Infinite}
use Rattle.js_values.specs.declared.value.Value.{Value}
use Rattle.js_natives.specs.declared.answer.Answer.{Answer}
use Rattle.js_natives.specs.Asks.{Asks, stop, number_answer}
use Rattle.js_natives.specs.Convert.{number_at, number_in}

-- ---- Math.abs (x) (15.8.2.1)

abbrev pub size_of : Num → Num
size_of NaN = NaN
size_of (Whole z) = Whole (pos (unsigned_abs z))

abbrev pub abs : Value → List Value → Asks Answer
abs this args = number_answer (size_of (number_at args 0))

-- ---- Math.floor (x), Math.ceil (x) and Math.round (x) (15.8.2.9, 15.8.2.6, 15.8.2.15): each number
-- is whole

abbrev pub as_number : Value → List Value → Asks Answer
as_number this args = number_answer (number_at args 0)

-- ---- Math.max (value1, value2, ..) (15.8.2.11)

abbrev pub greater_of : Num → Num → Num
greater_of NaN b = NaN
greater_of (Whole a) NaN = NaN
greater_of (Whole a) (Whole b) = if int_lt a b then Whole b else Whole a

abbrev pub chosen : (Num → Num → Num) → Num → List Value → Num
chosen choose best [] = best
chosen choose best (v ∷ vs) = chosen choose (choose best (number_in v)) vs

-- of none it would be an infinity
abbrev pub chosen_of : (Num → Num → Num) → List Value → Asks Answer
chosen_of choose [] = stop Infinite
chosen_of choose (v ∷ vs) = number_answer (chosen choose (number_in v) vs)

abbrev pub greatest : Value → List Value → Asks Answer
greatest this args = chosen_of greater_of args

-- ---- Math.min (value1, value2, ..) (15.8.2.12)

abbrev pub less_of : Num → Num → Num
less_of NaN b = NaN
less_of (Whole a) NaN = NaN
less_of (Whole a) (Whole b) = if int_lt b a then Whole b else Whole a

abbrev pub least : Value → List Value → Asks Answer
least this args = chosen_of less_of args
