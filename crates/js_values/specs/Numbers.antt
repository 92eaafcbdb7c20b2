-- Sums, products, quotients and the order of numbers (ES3 11.5 to 11.8), over the whole numbers:
-- what each gives, or the stop that it meets.
use Rattle.std.specs.Prelude.{Bool, ℤ, pos, ◌+ℤ◌, ◌-ℤ◌, ◌*ℤ◌, neg_ℤ, int_div, int_rem, int_lt}
use Rattle.std.specs.Prelude.{if◌then◌else◌, Option, Some, None, Result, Ok, Err}
use Rattle.std.specs.Ordering.{int_eq}
use Rattle.js_values.specs.declared.number.Num.{Num}
use Rattle.js_values.specs.declared.number.Num.TheVariants.{NaN, Whole}
use Rattle.js_values.specs.declared.reason.Reason.{Reason}
use Rattle.js_values.specs.declared.reason.Reason.TheVariants.{TooLarge, Infinite, Fraction}
use Rattle.js_values.specs.Range.{is_in_range}

abbrev pub is_zero : ℤ → Bool
is_zero z = int_eq z (pos 0)

-- the number, where it is one of at most 53 bits
abbrev pub whole_or_stop : ℤ → Result Num Reason
whole_or_stop z = if is_in_range z then Ok (Whole z) else Err TooLarge

-- ---- addition and multiplication (ES3 11.6.3, 11.5.1)

abbrev pub sum_of : Num → Num → Result Num Reason
sum_of NaN b = Ok NaN
sum_of (Whole a) NaN = Ok NaN
sum_of (Whole a) (Whole b) = whole_or_stop (a +ℤ b)

abbrev pub difference_of : Num → Num → Result Num Reason
difference_of NaN b = Ok NaN
difference_of (Whole a) NaN = Ok NaN
difference_of (Whole a) (Whole b) = whole_or_stop (a -ℤ b)

abbrev pub product_of : Num → Num → Result Num Reason
product_of NaN b = Ok NaN
product_of (Whole a) NaN = Ok NaN
product_of (Whole a) (Whole b) = whole_or_stop (a *ℤ b)

-- ES3 11.4.7; minus zero is 0
abbrev pub negation_of : Num → Num
negation_of NaN = NaN
negation_of (Whole a) = Whole (neg_ℤ a)

-- ---- division (ES3 11.5.2, 11.5.3)

-- by zero
abbrev pub quotient_by_zero : ℤ → Result Num Reason
quotient_by_zero a = if is_zero a then Ok NaN else Err Infinite

-- by another number: the quotient, where nothing is left of it
abbrev pub whole_quotient : ℤ → ℤ → Result Num Reason
whole_quotient a b = if is_zero (int_rem a b) then Ok (Whole (int_div a b)) else Err Fraction

abbrev pub quotient_of : Num → Num → Result Num Reason
quotient_of NaN b = Ok NaN
quotient_of (Whole a) NaN = Ok NaN
quotient_of (Whole a) (Whole b) = if is_zero b then quotient_by_zero a else whole_quotient a b

-- what the quotient, rounded towards zero, leaves of the dividend
abbrev pub remainder_of : Num → Num → Num
remainder_of NaN b = NaN
remainder_of (Whole a) NaN = NaN
remainder_of (Whole a) (Whole b) = if is_zero b then NaN else Whole (int_rem a b)

-- ---- order (ES3 11.8.5): None is the standard's `undefined`

abbrev pub less_of : Num → Num → Option Bool
less_of NaN b = None
less_of (Whole a) NaN = None
less_of (Whole a) (Whole b) = Some (int_lt a b)
