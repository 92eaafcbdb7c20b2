-- What an operator gives for two values, where it asks for nothing: neither has to be converted by
-- its own functions, and no object is looked at. None where it does.
use Rattle.std.specs.Prelude.{ℕ, ◌^◌, nat_le, Bool, true, false, not, ◌||◌, if◌then◌else◌}
use Rattle.std.specs.Prelude.{List, ◌++◌, length, Option, Some, None, Result, Ok, Err}
use Rattle.std.specs.Prelude.{bit_and, bit_or, bit_xor}
use Rattle.js_values.specs.declared.number.Num.{Num}
use Rattle.js_values.specs.declared.number.Num.TheVariants as number
use Rattle.js_values.specs.declared.reason.Reason.{Reason}
use Rattle.js_values.specs.declared.reason.Reason.TheVariants.{LongText}
use Rattle.js_values.specs.declared.value.Value.{Value}
use Rattle.js_values.specs.declared.value.Value.TheVariants as value
use Rattle.js_values.specs.Equality.{equal_of, same_value}
use Rattle.js_values.specs.Integers.{shifted_left, shifted_right, shifted_right_unsigned}
use Rattle.js_values.specs.Numbers.{sum_of, difference_of, product_of, quotient_of, remainder_of}
use Rattle.js_values.specs.Numbers.{less_of}
use Rattle.js_values.specs.Values.{number_of, text_of}
use Rattle.js_tree.specs.declared.tree.BinaryOp.{BinaryOp}
use Rattle.js_tree.specs.declared.tree.BinaryOp.TheVariants as op
use Rattle.js_machine.specs.Operators.{bitwise, exactly, is_not_so, is_so, is_text, text_less}

-- a value, or a stop
abbrev pub Operated : Type 0
Operated = Option (Result Value Reason)

abbrev pub is_object : Value → Bool
is_object (value.Object o) = true
is_object v = false

-- ---- on numbers

abbrev pub with_number : Option (Result Num Reason) → (Num → Operated) → Operated
with_number None k = None
with_number (Some (Err stop)) k = Some (Err stop)
with_number (Some (Ok n)) k = k n

abbrev pub number_result : Result Num Reason → Result Value Reason
number_result (Err stop) = Err stop
number_result (Ok n) = Ok (value.Num n)

abbrev pub on_numbers : (Num → Num → Result Value Reason) → Value → Value → Operated
on_numbers f v w = with_number (number_of v) (λ a. with_number (number_of w) (λ b. Some (f a b)))

abbrev pub computed : (Num → Num → Result Num Reason) → Value → Value → Operated
computed compute v w = on_numbers (λ a b. number_result (compute a b)) v w

-- ---- +

abbrev pub text_result : List ℕ → Result Value Reason
text_result text = if nat_le (length text) (2 ^ 26) then Ok (value.Str text) else Err LongText

abbrev pub with_text : Option (List ℕ) → (List ℕ → Operated) → Operated
with_text None k = None
with_text (Some text) k = k text

abbrev pub joined_texts : Value → Value → Operated
joined_texts v w = with_text (text_of v) (λ a. with_text (text_of w) (λ b. Some (text_result (a ++ b))))

abbrev pub added_to : Value → Value → Operated
added_to v w =
    if is_object v || is_object w then None
    else (if is_text v || is_text w then joined_texts v w else computed sum_of v w)

-- ---- order

abbrev pub truth_result : (Option Bool → Bool) → Option Bool → Result Value Reason
truth_result change b = Ok (value.Bool (change b))

abbrev pub in_order : (Option Bool → Bool) → Value → Value → Operated
in_order change (value.Str a) (value.Str b) = Some (truth_result change (Some (text_less a b)))
in_order change x y =
    if is_object x || is_object y then None
    else on_numbers (λ a b. truth_result change (less_of a b)) x y

-- ---- equality

abbrev pub changed_truth : (Bool → Bool) → Result Bool Reason → Result Value Reason
changed_truth change (Err stop) = Err stop
changed_truth change (Ok b) = Ok (value.Bool (change b))

abbrev pub changed_equality : (Bool → Bool) → Option (Result Bool Reason) → Operated
changed_equality change None = None
changed_equality change (Some b) = Some (changed_truth change b)

abbrev pub is_nothing : Value → Bool
is_nothing value.Undefined = true
is_nothing value.Null = true
is_nothing v = false

-- an object and another value
abbrev pub with_object : (Bool → Bool) → Value → Operated
with_object change w = if is_nothing w then Some (Ok (value.Bool (change false))) else None

abbrev pub in_equality : (Bool → Bool) → Value → Value → Operated
in_equality change (value.Object a) (value.Object b) =
    Some (Ok (value.Bool (change (same_value (value.Object a) (value.Object b)))))
in_equality change (value.Object a) w = with_object change w
in_equality change v (value.Object b) = with_object change v
in_equality change v w = changed_equality change (equal_of v w)

-- ---- all of them

-- what an operation on two numbers gives
abbrev pub on_two : BinaryOp → Num → Num → Result Num Reason
on_two op.Multiply = product_of
on_two op.Divide = quotient_of
on_two op.Remainder = exactly remainder_of
on_two op.Add = sum_of
on_two op.Subtract = difference_of
on_two op.ShiftLeft = exactly shifted_left
on_two op.ShiftRight = exactly shifted_right
on_two op.ShiftRightUnsigned = exactly shifted_right_unsigned
on_two op.BitAnd = exactly (bitwise bit_and)
on_two op.BitXor = exactly (bitwise bit_xor)
on_two op.BitOr = exactly (bitwise bit_or)
on_two _ = λ a b. Ok number.NaN

-- what a comparison makes of an order
abbrev pub truth_in : BinaryOp → Option Bool → Bool
truth_in op.LessEqual = is_not_so
truth_in op.GreaterEqual = is_not_so
truth_in _ = is_so

-- what an equality makes of a test
abbrev pub equality_in : BinaryOp → Bool → Bool
equality_in op.NotEqual = not
equality_in op.NotSame = not
equality_in _ = λ b. b

abbrev pub operated : BinaryOp → Value → Value → Operated
operated op.Multiply v w = computed product_of v w
operated op.Divide v w = computed quotient_of v w
operated op.Remainder v w = computed (exactly remainder_of) v w
operated op.Add v w = added_to v w
operated op.Subtract v w = computed difference_of v w
operated op.ShiftLeft v w = computed (exactly shifted_left) v w
operated op.ShiftRight v w = computed (exactly shifted_right) v w
operated op.ShiftRightUnsigned v w = computed (exactly shifted_right_unsigned) v w
operated op.Less v w = in_order is_so v w
operated op.Greater v w = in_order is_so w v
operated op.LessEqual v w = in_order is_not_so w v
operated op.GreaterEqual v w = in_order is_not_so v w
operated op.InstanceOf v w = None
operated op.In v w = None
operated op.Equal v w = in_equality (λ b. b) v w
operated op.NotEqual v w = in_equality not v w
operated op.Same v w = Some (Ok (value.Bool (same_value v w)))
operated op.NotSame v w = Some (Ok (value.Bool (not (same_value v w))))
operated op.BitAnd v w = computed (exactly (bitwise bit_and)) v w
operated op.BitXor v w = computed (exactly (bitwise bit_xor)) v w
operated op.BitOr v w = computed (exactly (bitwise bit_or)) v w
