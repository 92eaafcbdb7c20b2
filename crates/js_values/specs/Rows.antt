-- Numbers and texts of the rows.
use Rattle.std.specs.Prelude.{ℕ, true, pos, neg_ℤ, List, [], ◌∷◌, Result, map}
use Rattle.js_values.specs.declared.number.Num.{Num}
use Rattle.js_values.specs.declared.number.Num.TheVariants.{NaN, Whole}
use Rattle.js_values.specs.declared.reason.Reason.{Reason}
use Rattle.js_values.specs.declared.value.Value.{Value}
use Rattle.js_values.specs.declared.value.Value.TheVariants as value
use Rattle.js_values.specs.NumberTexts.{number_of_text}

-- a whole number, and its negation
abbrev pub n : ℕ → Num
n size = Whole (pos size)

abbrev pub minus : ℕ → Num
minus size = Whole (neg_ℤ (pos size))

-- the greatest size
abbrev pub top : ℕ
top = 9007199254740991

-- an object
abbrev pub object : ℕ → Value
object id = value.Object (record { 0 = id })

-- a value of each kind
abbrev pub one_of_each : List Value
one_of_each =
    value.Undefined ∷ value.Null ∷ value.Bool true ∷ value.Num NaN ∷ value.Str [] ∷ object 7
    ∷ []

-- what texts are
abbrev pub numbers_of : List (List ℕ) → List (Result Num Reason)
numbers_of texts = map number_of_text texts
