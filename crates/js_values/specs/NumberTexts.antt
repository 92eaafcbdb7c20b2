-- The number that a text is (ES3 9.3.1). Its productions stand here as tests of a whole text.
use Rattle.std.specs.Prelude.{ℕ, ◌==◌, ◌||◌, ◌&&◌, nat_le, nat_lt, Bool, true, false}
use Rattle.std.specs.Prelude.{if◌then◌else◌, List, [], ◌∷◌, ℤ, pos, neg_ℤ, codes, nat_eq}
use Rattle.std.specs.Prelude.{Result, Ok, Err}
use Rattle.std.specs.List.{list_all}
use Rattle.std.specs.Cmp.Lexicographic.{pointwise}
use Rattle.std.specs.Char.{digit_value}
use Rattle.std.specs.Str.Parse.{digits_value}
use Rattle.dl_text.specs.Place.{is_line_terminator}
use Rattle.js_values.specs.declared.number.Num.{Num}
use Rattle.js_values.specs.declared.number.Num.TheVariants.{NaN, Whole}
use Rattle.js_values.specs.declared.reason.Reason.{Reason}
use Rattle.js_values.specs.declared.reason.Reason.TheVariants.{NumberText}
use Rattle.js_values.specs.Numbers.{whole_or_stop}

-- ---- StrWhiteSpaceChar

-- the white space of a script
abbrev pub is_white_space : ℕ → Bool
is_white_space c =
    (c == 9) || ((c == 11) || ((c == 12) || ((c == 32) || ((c == 0xA0) || ((c == 0x1680)
    || ((nat_le 0x2000 c && nat_le c 0x200A)
    || ((c == 0x202F) || ((c == 0x205F) || (c == 0x3000)))))))))

-- white space or a line terminator
abbrev pub is_blank : ℕ → Bool
is_blank c = is_white_space c || is_line_terminator c

-- what stands behind the units at the front that pass
abbrev pub behind : (ℕ → Bool) → List ℕ → List ℕ
behind test [] = []
behind test (c ∷ cs) = if test c then behind test cs else c ∷ cs

-- without the blanks at the end
abbrev pub without_last_blanks : List ℕ → List ℕ
without_last_blanks [] = []
without_last_blanks (c ∷ cs) =
    if list_all is_blank (c ∷ cs) then [] else c ∷ without_last_blanks cs

abbrev pub trimmed : List ℕ → List ℕ
trimmed text = without_last_blanks (behind is_blank text)

-- ---- digits and signs

abbrev pub is_digit : ℕ → Bool
is_digit c = nat_le 48 c && nat_le c 57

abbrev pub is_hex_digit : ℕ → Bool
is_hex_digit c = nat_lt (digit_value c) 16

-- DecimalDigits
abbrev pub is_decimal : List ℕ → Bool
is_decimal [] = false
is_decimal (c ∷ cs) = is_digit c && list_all is_digit cs

-- one HexDigit or more
abbrev pub is_hexadecimal : List ℕ → Bool
is_hexadecimal [] = false
is_hexadecimal (c ∷ cs) = is_hex_digit c && list_all is_hex_digit cs

-- what stands behind `0x` or `0X`, or nothing
abbrev pub behind_prefix : List ℕ → List ℕ
behind_prefix [] = []
behind_prefix (c ∷ []) = []
behind_prefix (c ∷ (x ∷ cs)) = if (c == 48) && ((x == 120) || (x == 88)) then cs else []

-- HexIntegerLiteral
abbrev pub is_hex_literal : List ℕ → Bool
is_hex_literal text = is_hexadecimal (behind_prefix text)

-- what stands behind a sign, if there is one
abbrev pub without_sign : List ℕ → List ℕ
without_sign [] = []
without_sign (c ∷ cs) = if (c == 43) || (c == 45) then cs else c ∷ cs

-- there is a `-`
abbrev pub is_negative : List ℕ → Bool
is_negative [] = false
is_negative (c ∷ cs) = c == 45

-- ---- StrUnsignedDecimalLiteral with a point or an exponent, or `Infinity`

abbrev pub begins_digit : List ℕ → Bool
begins_digit [] = false
begins_digit (c ∷ cs) = is_digit c

-- ExponentPart: `e` or `E`, and digits behind a sign or none
abbrev pub is_exponent : List ℕ → Bool
is_exponent [] = false
is_exponent (c ∷ cs) = ((c == 101) || (c == 69)) && is_decimal (without_sign cs)

-- ExponentPart or nothing
abbrev pub ends_literal : List ℕ → Bool
ends_literal [] = true
ends_literal (c ∷ cs) = is_exponent (c ∷ cs)

-- what stands behind the whole part, which has digits or not: a point, with digits on one side of
-- it at least, or an exponent
abbrev pub ends_fraction : Bool → List ℕ → Bool
ends_fraction digits [] = false
ends_fraction digits (c ∷ cs) =
    if c == 46 then (digits || begins_digit cs) && ends_literal (behind is_digit cs)
    else digits && is_exponent (c ∷ cs)

abbrev pub is_fractional : List ℕ → Bool
is_fractional text =
    pointwise nat_eq text (codes "Infinity")
    || ends_fraction (begins_digit text) (behind is_digit text)

-- ---- the number

-- the number of decimal digits behind a sign or none
abbrev pub signed_decimal : List ℕ → ℤ
signed_decimal text =
    if is_negative text then neg_ℤ (pos (digits_value 10 (without_sign text)))
    else pos (digits_value 10 (without_sign text))

-- what is no whole number: a stop where the standard has a number, and NaN otherwise
abbrev pub no_whole_number : List ℕ → Result Num Reason
no_whole_number text = if is_fractional (without_sign text) then Err NumberText else Ok NaN

abbrev pub hex_number : List ℕ → Result Num Reason
hex_number text = whole_or_stop (pos (digits_value 16 (behind_prefix text)))

abbrev pub decimal_number : List ℕ → Result Num Reason
decimal_number text =
    if is_decimal (without_sign text) then whole_or_stop (signed_decimal text)
    else no_whole_number text

-- of a text with no blanks around it
abbrev pub number_of_literal : List ℕ → Result Num Reason
number_of_literal [] = Ok (Whole (pos 0))
number_of_literal (c ∷ cs) =
    if is_hex_literal (c ∷ cs) then hex_number (c ∷ cs) else decimal_number (c ∷ cs)

-- ToNumber of a text
abbrev pub number_of_text : List ℕ → Result Num Reason
number_of_text text = number_of_literal (trimmed text)
