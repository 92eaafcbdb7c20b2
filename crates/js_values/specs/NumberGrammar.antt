-- The productions of ES3 9.3.1 for numbers that are not written as whole numbers, as they stand
-- there.
use Rattle.std.specs.Prelude.{◌≡◌, ℕ, true, ◌⊎◌, List, [], ◌∷◌, ◌++◌, codes}
use Rattle.std.specs.List.{list_all}
use Rattle.js_values.specs.NumberTexts.{is_digit, is_decimal}

-- DecimalDigits
abbrev pub Digits : List ℕ → Type 0
Digits text = is_decimal text ≡ true

-- DecimalDigits or nothing
abbrev pub DigitsOrNone : List ℕ → Type 0
DigitsOrNone text = list_all is_digit text ≡ true

-- SignedInteger
pub data SignedInteger : List ℕ → Type 0 where
  unsigned : (digits : List ℕ) → Digits digits → SignedInteger digits
  positive : (digits : List ℕ) → Digits digits → SignedInteger (43 ∷ digits)
  negative : (digits : List ℕ) → Digits digits → SignedInteger (45 ∷ digits)

-- ExponentPart
pub data ExponentPart : List ℕ → Type 0 where
  small : (power : List ℕ) → SignedInteger power → ExponentPart (101 ∷ power)
  capital : (power : List ℕ) → SignedInteger power → ExponentPart (69 ∷ power)

abbrev pub ExponentOrNone : List ℕ → Type 0
ExponentOrNone text = (text ≡ []) ⊎ ExponentPart text

-- StrUnsignedDecimalLiteral, but for DecimalDigits alone
pub data FractionalLiteral : List ℕ → Type 0 where
  infinity : FractionalLiteral (codes "Infinity")
  point :
      (whole part end : List ℕ) → Digits whole → DigitsOrNone part → ExponentOrNone end
      → FractionalLiteral (whole ++ 46 ∷ (part ++ end))
  point_first :
      (part end : List ℕ) → Digits part → ExponentOrNone end
      → FractionalLiteral (46 ∷ (part ++ end))
  exponent :
      (whole end : List ℕ) → Digits whole → ExponentPart end → FractionalLiteral (whole ++ end)
