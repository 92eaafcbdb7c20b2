-- Operators between two values.
use Rattle.std.proofs.Common.{ℕ, Bool, false, ◌||◌, not, ◌++◌}
use Rattle.std.specs.Prelude.{Option, Some, None, Result, bit_and, bit_or, bit_xor}
use Rattle.js_values.specs.declared.number.Num.{Num}
use Rattle.js_values.specs.declared.reason.Reason.{Reason}
use Rattle.js_values.specs.declared.value.Value.{Value}
use Rattle.js_values.specs.declared.value.Value.TheVariants as value
use Rattle.js_values.specs.Equality.{equal_of}
use Rattle.js_values.specs.Integers.{shifted_left, shifted_right, shifted_right_unsigned}
use Rattle.js_values.specs.Numbers.{sum_of, difference_of, product_of, quotient_of, remainder_of, less_of}
use Rattle.object_heap.specs.Names.{prototype_name}
use Rattle.js_tree.specs.declared.tree.BinaryOp.{BinaryOp}
use Rattle.js_tree.specs.declared.tree.BinaryOp.TheVariants as op
use Rattle.js_machine.specs.Asks.{Program}
use Rattle.js_machine.specs.Conversions.{HintNumber, to_primitive, to_number}
use Rattle.js_machine.specs.Kinds.{is_function}
use Rattle.js_machine.specs.Operators.{arithmetic, exactly, bitwise, is_text, concatenated, added, text_less, primitive_less, less, is_so, is_not_so, has_instance, instance_of, instance_of_value, has_property, primitive_equal, object_equals, equals, order, operate}
use Rattle.js_machine.specs.Reachable as fits
use Rattle.js_machine.specs.Reachable.{Counts, IsInReach, ValueFits}
use Rattle.js_machine.proofs.fitting.Growth.{stays, grows_on, is_there, later_reach, later_value}
use Rattle.js_machine.proofs.fitting.Family as asks
use Rattle.js_machine.proofs.fitting.Family.{ProgramFits, OnValues, OnAll, later_program}
use Rattle.js_machine.proofs.fitting.Frames.{if_fits}
use Rattle.js_machine.proofs.fitting.References.{type_error_fits, get_fits}
use Rattle.js_machine.proofs.fitting.Conversions.{or_stop_fits, text_or_stop_fits, to_primitive_fits, to_number_fits, to_text_fits, to_name_fits}

-- ---- numbers and texts

arithmetic_fits : (compute : Num → Num → Result Num Reason) {w : Counts} {a b : Value} {k : Value → Program} → ValueFits w a → ValueFits w b → OnValues w k → ProgramFits w (arithmetic compute a b k)
arithmetic_fits compute a b h =
    to_number_fits a (λ v g x. to_number_fits (later_value g b) (λ u f y.
    or_stop_fits (compute x y) (λ n. h u (grows_on g f) (value.Num n) fits.num)))

concatenated_fits : {w : Counts} {a b : Value} {k : Value → Program} → ValueFits w a → ValueFits w b → OnValues w k → ProgramFits w (concatenated a b k)
concatenated_fits {k = go} a b h =
    to_text_fits a (λ v g x. to_text_fits (later_value g b) (λ u f y.
    text_or_stop_fits (x ++ y) (λ text. go (value.Str text)) (h u (grows_on g f) (value.Str (x ++ y)) fits.str)))

added_fits : {w : Counts} {a b : Value} {k : Value → Program} → ValueFits w a → ValueFits w b → OnValues w k → ProgramFits w (added a b k)
added_fits a b h =
    to_primitive_fits HintNumber a (λ v g x p. to_primitive_fits HintNumber (later_value g b) (λ u f y q.
    if_fits (is_text x || is_text y) (concatenated_fits (later_value f p) q (λ t e. h t (grows_on (grows_on g f) e))) (arithmetic_fits sum_of (later_value f p) q (λ t e. h t (grows_on (grows_on g f) e)))))

-- ---- order

by_numbers : {w : Counts} {a b : Value} {k : Option Bool → Program} → ValueFits w a → ValueFits w b → OnAll (Option Bool) w k → ProgramFits w (to_number a (λ x. to_number b (λ y. k (less_of x y))))
by_numbers a b h = to_number_fits a (λ v g x. to_number_fits (later_value g b) (λ u f y. h u (grows_on g f) (less_of x y)))

primitive_less_fits : {w : Counts} {a b : Value} {k : Option Bool → Program} → ValueFits w a → ValueFits w b → OnAll (Option Bool) w k → ProgramFits w (primitive_less a b k)
primitive_less_fits {w = w} (fits.str {text = s}) (fits.str {text = t}) h = h w (stays w) (Some (text_less s t))
primitive_less_fits a b h = by_numbers a b h

less_fits : {w : Counts} {a b : Value} {k : Option Bool → Program} → ValueFits w a → ValueFits w b → OnAll (Option Bool) w k → ProgramFits w (less a b k)
less_fits a b h =
    to_primitive_fits HintNumber a (λ v g x p. to_primitive_fits HintNumber (later_value g b) (λ u f y q.
    primitive_less_fits (later_value f p) q (λ t e. h t (grows_on (grows_on g f) e))))

order_fits : (change : Option Bool → Bool) {w : Counts} {a b : Value} {k : Value → Program} → ValueFits w a → ValueFits w b → OnValues w k → ProgramFits w (order change a b k)
order_fits change a b h = less_fits a b (λ v g c. h v g (value.Bool (change c)) fits.bool)

-- ---- `instanceof` and `in`

has_instance_fits : {w : Counts} {o : ℕ} {a : Value} {k : Bool → Program} → IsInReach w o → ValueFits w a → OnAll Bool w k → ProgramFits w (has_instance o a k)
has_instance_fits o (fits.object p) h = asks.behind (is_there o) (is_there p) h
has_instance_fits o fits.undefined h = type_error_fits
has_instance_fits o fits.null h = type_error_fits
has_instance_fits o fits.bool h = type_error_fits
has_instance_fits o fits.num h = type_error_fits
has_instance_fits o fits.str h = type_error_fits

instance_of_fits : {w : Counts} {a : Value} {f : ℕ} {k : Bool → Program} → ValueFits w a → IsInReach w f → OnAll Bool w k → ProgramFits w (instance_of a f k)
instance_of_fits (fits.object o) f h = get_fits prototype_name (is_there f) (λ v g prototype p. has_instance_fits (later_reach g o) p (λ u e. h u (grows_on g e)))
instance_of_fits {w = w} fits.undefined f h = h w (stays w) false
instance_of_fits {w = w} fits.null f h = h w (stays w) false
instance_of_fits {w = w} fits.bool f h = h w (stays w) false
instance_of_fits {w = w} fits.num f h = h w (stays w) false
instance_of_fits {w = w} fits.str f h = h w (stays w) false

instance_of_value_fits : {w : Counts} {a b : Value} {k : Bool → Program} → ValueFits w a → ValueFits w b → OnAll Bool w k → ProgramFits w (instance_of_value a b k)
instance_of_value_fits a (fits.object f) h =
    asks.kind_of (fits.object f) (λ v g kind. if_fits (is_function kind) (instance_of_fits (later_value g a) (later_reach g f) (λ u e. h u (grows_on g e))) type_error_fits)
instance_of_value_fits a fits.undefined h = type_error_fits
instance_of_value_fits a fits.null h = type_error_fits
instance_of_value_fits a fits.bool h = type_error_fits
instance_of_value_fits a fits.num h = type_error_fits
instance_of_value_fits a fits.str h = type_error_fits

has_property_fits : {w : Counts} {a b : Value} {k : Bool → Program} → ValueFits w a → ValueFits w b → OnAll Bool w k → ProgramFits w (has_property a b k)
has_property_fits a (fits.object o) h = to_name_fits a (λ v g name. asks.has {name = name} (is_there (later_reach g o)) (λ u e. h u (grows_on g e)))
has_property_fits a fits.undefined h = type_error_fits
has_property_fits a fits.null h = type_error_fits
has_property_fits a fits.bool h = type_error_fits
has_property_fits a fits.num h = type_error_fits
has_property_fits a fits.str h = type_error_fits

-- ---- 11.9.3 ==

primitive_equal_fits : (r : Option (Result Bool Reason)) {w : Counts} {k : Bool → Program} → OnAll Bool w k → ProgramFits w (primitive_equal r k)
primitive_equal_fits (Some b) {w = w} h = or_stop_fits b (h w (stays w))
primitive_equal_fits None {w = w} h = h w (stays w) false

by_primitive : (b : Value) {w : Counts} {a : Value} {k : Bool → Program} → ValueFits w a → OnAll Bool w k → ProgramFits w (to_primitive HintNumber a (λ x. primitive_equal (equal_of x b) k))
by_primitive b a h = to_primitive_fits HintNumber a (λ v g x p. primitive_equal_fits (equal_of x b) (λ u e. h u (grows_on g e)))

object_equals_fits : (b : Value) {w : Counts} {a : Value} {k : Bool → Program} → ValueFits w a → OnAll Bool w k → ProgramFits w (object_equals a b k)
object_equals_fits value.Undefined {w = w} a h = h w (stays w) false
object_equals_fits value.Null {w = w} a h = h w (stays w) false
object_equals_fits b a h = by_primitive b a h

equals_fits : {w : Counts} {a b : Value} {k : Bool → Program} → ValueFits w a → ValueFits w b → OnAll Bool w k → ProgramFits w (equals a b k)
equals_fits (fits.object a) (fits.object b) h = asks.compare (fits.object a) (fits.object b) h
equals_fits {b = y} (fits.object a) b h = object_equals_fits y (fits.object a) h
equals_fits {a = x} a (fits.object b) h = object_equals_fits x (fits.object b) h
equals_fits {a = x} {b = y} a b h = primitive_equal_fits (equal_of x y) h

-- ---- all of them

pub operate_fits : (o : BinaryOp) {w : Counts} {a b : Value} {k : Value → Program} → ValueFits w a → ValueFits w b → OnValues w k → ProgramFits w (operate o a b k)
operate_fits op.Multiply a b h = arithmetic_fits product_of a b h
operate_fits op.Divide a b h = arithmetic_fits quotient_of a b h
operate_fits op.Remainder a b h = arithmetic_fits (exactly remainder_of) a b h
operate_fits op.Add a b h = added_fits a b h
operate_fits op.Subtract a b h = arithmetic_fits difference_of a b h
operate_fits op.ShiftLeft a b h = arithmetic_fits (exactly shifted_left) a b h
operate_fits op.ShiftRight a b h = arithmetic_fits (exactly shifted_right) a b h
operate_fits op.ShiftRightUnsigned a b h = arithmetic_fits (exactly shifted_right_unsigned) a b h
operate_fits op.Less a b h = order_fits is_so a b h
operate_fits op.Greater a b h = order_fits is_so b a h
operate_fits op.LessEqual a b h = order_fits is_not_so b a h
operate_fits op.GreaterEqual a b h = order_fits is_not_so a b h
operate_fits op.InstanceOf a b h = instance_of_value_fits a b (λ v g c. h v g (value.Bool c) fits.bool)
operate_fits op.In a b h = has_property_fits a b (λ v g c. h v g (value.Bool c) fits.bool)
operate_fits op.Equal a b h = equals_fits a b (λ v g c. h v g (value.Bool c) fits.bool)
operate_fits op.NotEqual a b h = equals_fits a b (λ v g c. h v g (value.Bool (not c)) fits.bool)
operate_fits op.Same a b h = asks.compare a b (λ v g c. h v g (value.Bool c) fits.bool)
operate_fits op.NotSame a b h = asks.compare a b (λ v g c. h v g (value.Bool (not c)) fits.bool)
operate_fits op.BitAnd a b h = arithmetic_fits (exactly (bitwise bit_and)) a b h
operate_fits op.BitXor a b h = arithmetic_fits (exactly (bitwise bit_xor)) a b h
operate_fits op.BitOr a b h = arithmetic_fits (exactly (bitwise bit_or)) a b h
