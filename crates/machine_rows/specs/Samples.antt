-- Values of the rows on the machine's definitions, and what is made of them.
use Rattle.std.specs.Prelude.{ℕ, List, pos, neg_ℤ, true, false, Some, Ok, Err}
use Rattle.js_values.specs.declared.number.Num.{Num}
use Rattle.js_values.specs.declared.number.Num.TheVariants as number
use Rattle.js_values.specs.declared.reason.Reason.{Reason}
use Rattle.js_values.specs.declared.value.Value.{Value}
use Rattle.js_values.specs.declared.value.Value.TheVariants as value
use Rattle.js_machine.specs.Operated.{Operated}

-- ---- values

abbrev pub whole_number : ℕ → Num
whole_number n = number.Whole (pos n)

abbrev pub whole : ℕ → Value
whole n = value.Num (whole_number n)

abbrev pub minus_number : ℕ → Num
minus_number n = number.Whole (neg_ℤ (pos n))

abbrev pub minus : ℕ → Value
minus n = value.Num (minus_number n)

abbrev pub nan : Value
nan = value.Num number.NaN

abbrev pub text : List ℕ → Value
text t = value.Str t

abbrev pub nothing : Value
nothing = value.Undefined

abbrev pub null : Value
null = value.Null

abbrev pub yes : Value
yes = value.Bool true

abbrev pub no : Value
no = value.Bool false

abbrev pub object : ℕ → Value
object o = value.Object (record { 0 = o })

-- ---- what an operator gives, and where it stops

abbrev pub of : Value → Operated
of v = Some (Ok v)

abbrev pub stops : Reason → Operated
stops reason = Some (Err reason)
