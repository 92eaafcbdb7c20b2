-- The text of a number in a radix (ES3 9.8.1, 15.7.4.2).
use Rattle.std.specs.Prelude.{ℕ, suc, ℤ, pos, negsuc, neg_ℤ, ◌==◌, if◌then◌else◌}
use Rattle.std.specs.Prelude.{List, [], ◌∷◌, map, codes}
use Rattle.std.specs.Char.{digit_char}
use Rattle.std.specs.Int.Digits.{digits_of}
use Rattle.std.specs.Str.Parse.{digits_value}
use Rattle.js_values.specs.declared.number.Num.{Num}
use Rattle.js_values.specs.declared.number.Num.TheVariants.{NaN, Whole}

-- the digits, the highest first: `0` to `9`, then `a` to `z`
abbrev pub digits_text : ℕ → ℕ → List ℕ
digits_text radix n = if n == 0 then 48 ∷ [] else map digit_char (digits_of radix n)

-- the same behind `-`, where it is below 0
abbrev pub whole_text : ℕ → ℤ → List ℕ
whole_text radix (pos n) = digits_text radix n
whole_text radix (negsuc n) = 45 ∷ digits_text radix (suc n)

abbrev pub number_text : ℕ → Num → List ℕ
number_text radix NaN = codes "NaN"
number_text radix (Whole z) = whole_text radix z

-- ---- back

-- the number that digits write behind `-` or nothing
abbrev pub number_in : ℕ → List ℕ → ℤ
number_in radix [] = pos 0
number_in radix (c ∷ cs) =
    if c == 45 then neg_ℤ (pos (digits_value radix cs)) else pos (digits_value radix (c ∷ cs))
