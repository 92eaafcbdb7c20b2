-- What holds of all numbers and values.
use Rattle.std.specs.Prelude.{◌≡◌, ℕ, ◌-◌, ◌^◌, ◌<◌, ◌≤◌, ◌⊎◌, ◌↔◌, true, List, Ok}
use Rattle.std.specs.Prelude.{ℤ, pos, ◌+ℤ◌, ◌*ℤ◌, ◌≤ℤ◌, neg_ℤ, unsigned_abs}
use Rattle.js_values.specs.declared.number.Num.{Num}
use Rattle.js_values.specs.declared.number.Num.TheVariants.{Whole}
use Rattle.js_values.specs.declared.value.Value.{Value}
use Rattle.js_values.specs.Range.{IsInRange}
use Rattle.js_values.specs.Numbers.{sum_of, product_of, quotient_of, remainder_of}
use Rattle.js_values.specs.Integers.{int32_of, uint32_of}
use Rattle.js_values.specs.Numerals.{number_text, number_in}
use Rattle.js_values.specs.NumberTexts.{number_of_text, is_fractional}
use Rattle.js_values.specs.NumberGrammar.{FractionalLiteral}
use Rattle.js_values.specs.Values.{IsPrimitive}
use Rattle.js_values.specs.Equality.{same_value, equal_of}

-- ---- texts

-- the text of a whole number in a radix is read back there
abbrev pub TextsReadBack : Type 0
TextsReadBack =
    (radix : ℕ) (z : ℤ) → 2 ≤ radix → radix ≤ 36
    → number_in radix (number_text radix (Whole z)) ≡ z

-- in ten, as ToNumber reads it
abbrev pub DecimalsReadBack : Type 0
DecimalsReadBack = (z : ℤ) → IsInRange z → number_of_text (number_text 10 (Whole z)) ≡ Ok (Whole z)

-- a text without blanks and sign is told as fractional exactly where the standard's grammar has it
abbrev pub FractionsAreLiterals : Type 0
FractionsAreLiterals =
    (text : List ℕ) → (is_fractional text ≡ true) ↔ FractionalLiteral text

-- ---- sums, products and remainders

abbrev pub SumsCommute : Type 0
SumsCommute = (a b : Num) → sum_of a b ≡ sum_of b a

abbrev pub ProductsCommute : Type 0
ProductsCommute = (a b : Num) → product_of a b ≡ product_of b a

-- a quotient is the number that times the divisor gives the dividend
abbrev pub QuotientsAreExact : Type 0
QuotientsAreExact =
    (a b q : ℤ) → quotient_of (Whole a) (Whole b) ≡ Ok (Whole q) → q *ℤ b ≡ a

-- what a remainder is: it differs from the dividend by a multiple of the divisor, and it is smaller
-- than the divisor and has the dividend's sign
pub record IsRemainder (a b r : ℤ) : Type 0 where
  pub multiple : (q : ℤ) × (a ≡ b *ℤ q +ℤ r)
  pub smaller : unsigned_abs r < unsigned_abs b
  pub sign : ((pos 0 ≤ℤ a) × (pos 0 ≤ℤ r)) ⊎ ((a ≤ℤ pos 0) × (r ≤ℤ pos 0))

abbrev pub RemaindersAreLeft : Type 0
RemaindersAreLeft =
    (a b : ℤ) → 0 < unsigned_abs b
    → (r : ℤ) × (remainder_of (Whole a) (Whole b) ≡ Whole r) × IsRemainder a b r

-- ---- integers of 32 bits

-- ToInt32 and ToUint32 differ by nothing or by 2^32
abbrev pub IntegersAgree : Type 0
IntegersAgree =
    (a : Num) → (pos (uint32_of a) ≡ int32_of a) ⊎ (pos (uint32_of a) ≡ int32_of a +ℤ pos (2 ^ 32))

-- and a whole number differs from them by a multiple of 2^32
abbrev pub IntegersAreModular : Type 0
IntegersAreModular = (z : ℤ) → (q : ℤ) × (z ≡ q *ℤ pos (2 ^ 32) +ℤ pos (uint32_of (Whole z)))

abbrev pub IntegersFit : Type 0
IntegersFit =
    (a : Num)
    → (uint32_of a < 2 ^ 32)
    × (neg_ℤ (pos (2 ^ 31)) ≤ℤ int32_of a)
    × (int32_of a ≤ℤ pos (2 ^ 31 - 1))

-- ---- `==` and `===`

abbrev pub EqualityIsSymmetric : Type 0
EqualityIsSymmetric = (a b : Value) → IsPrimitive a → IsPrimitive b → equal_of a b ≡ equal_of b a

abbrev pub StrictEqualityIsSymmetric : Type 0
StrictEqualityIsSymmetric = (a b : Value) → same_value a b ≡ same_value b a
