-- Operators between two values (ES3 11.5 to 11.10).
use Rattle.std.specs.Prelude.{ℕ, ◌==◌, ◌||◌, nat_lt, Bool, true, false, not, if◌then◌else◌}
use Rattle.std.specs.Prelude.{List, [], ◌∷◌, ◌++◌, Option, Some, None, Result, Ok}
use Rattle.std.specs.Prelude.{bit_and, bit_or, bit_xor}
use Rattle.js_values.specs.declared.number.Num.{Num}
use Rattle.js_values.specs.declared.number.Num.TheVariants as number
use Rattle.js_values.specs.declared.reason.Reason.{Reason}
use Rattle.js_values.specs.declared.value.Value.{Value}
use Rattle.js_values.specs.declared.value.Value.TheVariants as value
use Rattle.js_values.specs.Numbers.{sum_of, difference_of, product_of, quotient_of, remainder_of}
use Rattle.js_values.specs.Numbers.{less_of}
use Rattle.js_values.specs.Integers.{uint32_of, signed_32_bits, shifted_left, shifted_right}
use Rattle.js_values.specs.Integers.{shifted_right_unsigned}
use Rattle.js_values.specs.Equality.{equal_of}
use Rattle.object_heap.specs.Names.{prototype_name}
use Rattle.js_tree.specs.declared.tree.BinaryOp.{BinaryOp}
use Rattle.js_tree.specs.declared.tree.BinaryOp.TheVariants as op
use Rattle.js_machine.specs.Asks.{Has, KindOf, Compare, Behind}
use Rattle.js_machine.specs.Kinds.{is_function}
use Rattle.js_machine.specs.Frames.{Asks, ◌>>=◌}
use Rattle.js_machine.specs.References.{get, throws_type_error}
use Rattle.js_machine.specs.Conversions.{or_stop, text_or_stop, HintNumber, to_primitive}
use Rattle.js_machine.specs.Conversions.{to_number, to_text, to_name}

-- ---- 11.5, 11.6.2, 11.7 and 11.10: on numbers, of which the left one is converted first

abbrev pub arithmetic : (Num → Num → Result Num Reason) → Value → Value → Asks Value
arithmetic compute v w k = do
  a ← to_number v
  b ← to_number w
  n ← or_stop (compute a b)
  k (value.Num n)

-- without a stop
abbrev pub exactly : (Num → Num → Num) → Num → Num → Result Num Reason
exactly compute a b = Ok (compute a b)

-- on the bits of ToInt32
abbrev pub bitwise : (ℕ → ℕ → ℕ) → Num → Num → Num
bitwise compute a b = number.Whole (signed_32_bits (compute (uint32_of a) (uint32_of b)))

-- ---- 11.6.1 +

abbrev pub is_text : Value → Bool
is_text (value.Str text) = true
is_text v = false

abbrev pub concatenated : Value → Value → Asks Value
concatenated v w k = do
  a ← to_text v
  b ← to_text w
  text ← text_or_stop (a ++ b)
  k (value.Str text)

abbrev pub added : Value → Value → Asks Value
added v w k = do
  a ← to_primitive HintNumber v
  b ← to_primitive HintNumber w
  (if is_text a || is_text b then concatenated a b k else arithmetic sum_of a b k)

-- ---- 11.8.5: whether x < y, where None is the standard's undefined; x is converted first

abbrev pub text_less : List ℕ → List ℕ → Bool
text_less a [] = false
text_less [] (d ∷ ds) = true
text_less (c ∷ cs) (d ∷ ds) = if c == d then text_less cs ds else nat_lt c d

abbrev pub primitive_less : Value → Value → Asks (Option Bool)
primitive_less (value.Str a) (value.Str b) k = k (Some (text_less a b))
primitive_less x y k = do
  a ← to_number x
  b ← to_number y
  k (less_of a b)

abbrev pub less : Value → Value → Asks (Option Bool)
less x y k = do
  a ← to_primitive HintNumber x
  b ← to_primitive HintNumber y
  primitive_less a b k

abbrev pub is_so : Option Bool → Bool
is_so None = false
is_so (Some b) = b

-- neither true nor undefined
abbrev pub is_not_so : Option Bool → Bool
is_not_so None = false
is_not_so (Some b) = not b

-- ---- 11.8.6 instanceof

-- 15.3.5.3 [[HasInstance]], where `prototype` has this value
abbrev pub has_instance : ℕ → Value → Asks Bool
has_instance o (value.Object prototype) k = Behind o prototype.0 k
has_instance o v k = throws_type_error

abbrev pub instance_of : Value → ℕ → Asks Bool
instance_of (value.Object o) f k = do
  prototype ← get f prototype_name
  has_instance o.0 prototype k
instance_of v f k = k false

-- only functions have [[HasInstance]]
abbrev pub instance_of_value : Value → Value → Asks Bool
instance_of_value v (value.Object f) k = do
  kind ← KindOf (value.Object f)
  if is_function kind then instance_of v f.0 k else throws_type_error
instance_of_value v w k = throws_type_error

-- ---- 11.8.7 in

abbrev pub has_property : Value → Value → Asks Bool
has_property v (value.Object o) k = do
  name ← to_name v
  Has o.0 name k
has_property v w k = throws_type_error

-- ---- 11.9.3 ==

abbrev pub primitive_equal : Option (Result Bool Reason) → Asks Bool
primitive_equal (Some b) k = or_stop b k
-- of an object, which no primitive value is
primitive_equal None k = k false

-- of an object and a value that is none: steps 2, 3 and 19 to 22
abbrev pub object_equals : Value → Value → Asks Bool
object_equals object value.Undefined k = k false
object_equals object value.Null k = k false
object_equals object w k = do
  v ← to_primitive HintNumber object
  primitive_equal (equal_of v w) k

abbrev pub equals : Value → Value → Asks Bool
equals (value.Object a) (value.Object b) k = Compare (value.Object a) (value.Object b) k
equals (value.Object a) w k = object_equals (value.Object a) w k
equals v (value.Object b) k = object_equals (value.Object b) v k
equals v w k = primitive_equal (equal_of v w) k

-- ---- all of them

abbrev pub truth : (Bool → Bool) → Asks Bool → Asks Value
truth change test k = test (λ b. k (value.Bool (change b)))

abbrev pub as_it_is : Bool → Bool
as_it_is b = b

abbrev pub order : (Option Bool → Bool) → Value → Value → Asks Value
order change x y k = less x y (λ b. k (value.Bool (change b)))

abbrev pub operate : BinaryOp → Value → Value → Asks Value
-- 11.5
operate op.Multiply v w = arithmetic product_of v w
operate op.Divide v w = arithmetic quotient_of v w
operate op.Remainder v w = arithmetic (exactly remainder_of) v w
-- 11.6
operate op.Add v w = added v w
operate op.Subtract v w = arithmetic difference_of v w
-- 11.7
operate op.ShiftLeft v w = arithmetic (exactly shifted_left) v w
operate op.ShiftRight v w = arithmetic (exactly shifted_right) v w
operate op.ShiftRightUnsigned v w = arithmetic (exactly shifted_right_unsigned) v w
-- 11.8: for `>` and `<=` the right operand is compared with the left, and is converted first
operate op.Less v w = order is_so v w
operate op.Greater v w = order is_so w v
operate op.LessEqual v w = order is_not_so w v
operate op.GreaterEqual v w = order is_not_so v w
operate op.InstanceOf v w = truth as_it_is (instance_of_value v w)
operate op.In v w = truth as_it_is (has_property v w)
-- 11.9
operate op.Equal v w = truth as_it_is (equals v w)
operate op.NotEqual v w = truth not (equals v w)
operate op.Same v w = truth as_it_is (Compare v w)
operate op.NotSame v w = truth not (Compare v w)
-- 11.10
operate op.BitAnd v w = arithmetic (exactly (bitwise bit_and)) v w
operate op.BitXor v w = arithmetic (exactly (bitwise bit_xor)) v w
operate op.BitOr v w = arithmetic (exactly (bitwise bit_or)) v w
