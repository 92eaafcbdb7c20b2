-- What is left of a run where an object is converted and no function is entered.
use Rattle.std.proofs.Common.{◌≡◌, ℕ, Bool, true, false, List, [], ◌∷◌, length, Option, Some, None, refl, sym, ap, ◌∙◌}
use Rattle.std.specs.Str.{chars}
use Rattle.dl_text.specs.Utf16.{utf16}
use Rattle.std.specs.Prelude.{codes, Result, Ok, Err, not, ◌||◌, is_some, map, if◌then◌else◌, bit_and, bit_or, bit_xor}
use Rattle.js_values.specs.declared.number.Num.{Num}
use Rattle.js_values.specs.declared.reason.Reason.{Reason}
use Rattle.js_values.specs.declared.value.ObjectId.{ObjectId}
use Rattle.js_values.specs.declared.value.Value.{Value}
use Rattle.js_values.specs.declared.value.Value.TheVariants as value
use Rattle.js_values.specs.Equality.{equal_of}
use Rattle.js_values.specs.Integers.{shifted_left, shifted_right, shifted_right_unsigned}
use Rattle.js_values.specs.Numbers.{less_of, sum_of, difference_of, product_of, quotient_of, remainder_of}
use Rattle.js_values.specs.Values.{number_of, text_of}
use Rattle.object_heap.specs.declared.built_in.BuiltIn.TheVariants as built
use Rattle.object_heap.specs.declared.object.Class.{Class}
use Rattle.object_heap.specs.declared.object.Class.TheVariants as class
use Rattle.object_heap.specs.BuiltIns.{which}
use Rattle.object_heap.specs.Names.{Name}
use Rattle.object_heap.specs.Objects.{Heap, class_of}
use Rattle.js_tree.specs.declared.tree.BinaryOp.{BinaryOp}
use Rattle.js_tree.specs.declared.tree.BinaryOp.TheVariants as op
use Rattle.js_tree.specs.declared.tree.PrefixOp.{PrefixOp}
use Rattle.js_tree.specs.declared.tree.PrefixOp.TheVariants as prefix
use Rattle.js_machine.specs.declared.frame.Frame.{Frame}
use Rattle.js_machine.specs.declared.hosts.HostCall.{HostCall}
use Rattle.js_machine.specs.Asks.{Program, Ends}
use Rattle.js_machine.specs.Conversions.{Hint, HintNumber, HintString, by_method, by_result, default_value, on_primitive, or_stop, primitive_number, primitive_text, to_number, to_primitive, to_string_name, to_text, value_of_name}
use Rattle.js_machine.specs.Converted.{enters, enters_by, enters_operated, enters_value, first_object}
use Rattle.js_machine.specs.Frames.{gives, on_value}
use Rattle.js_machine.specs.Globals.{host_body, is_callable, is_callable_by, number_by, unary, unary_of}
use Rattle.js_machine.specs.Members.{property_of}
use Rattle.js_machine.specs.Operated.{Operated, added_to, computed, in_equality, in_order, is_object, joined_texts, number_result, on_numbers, operated, truth_result, with_number, with_text}
use Rattle.js_machine.specs.Operators.{arithmetic, bitwise, concatenated, equals, exactly, is_not_so, is_so, is_text, operate, primitive_equal, primitive_less}
use Rattle.js_machine.specs.References.{error_object, throws_type_error}
use Rattle.js_machine.specs.Rest.{Outside, running, stack, state_of}
use Rattle.js_machine.specs.Run.{due, entered, go, if_entered, pop}
use Rattle.js_machine.specs.State.{Callee, callee_by, callee_of, function_callee, object_value, with_object}

-- ---- the names of the methods

pub to_string_units : (name : Name) → name ≡ utf16 (chars (codes "toString")) → name ≡ codes "toString"
unfolding chars
to_string_units name e = e

pub value_of_units : (name : Name) → name ≡ utf16 (chars (codes "valueOf")) → name ≡ codes "valueOf"
unfolding chars
value_of_units name e = e

pub ruleset name_laws = (to_string_units, value_of_units)

-- ---- values that are no objects have a number and a text

data Sort : Value → Type 0 where
  an_object : (o : ObjectId) → Sort (value.Object o)
  primitive : {v : Value} → is_object v ≡ false → Sort v

sort_of : (v : Value) → Sort v
sort_of value.Undefined = primitive refl
sort_of value.Null = primitive refl
sort_of (value.Bool b) = primitive refl
sort_of (value.Num n) = primitive refl
sort_of (value.Str text) = primitive refl
sort_of (value.Object o) = an_object o

-- what is computed of the number of a primitive value is there, if it is for each number
number_there : (v : Value) (f : Num → Operated) → is_object v ≡ false → ((n : Num) → f n ≡ None → ⊥) → with_number (number_of v) f ≡ None → ⊥
number_there value.Undefined f p h e = h _ e
number_there value.Null f p h e = h _ e
number_there (value.Bool b) f p h e = h _ e
number_there (value.Num n) f p h e = h n e
number_there (value.Str text) f p h e = of_text (Rattle.js_values.specs.NumberTexts.number_of_text text) e
  where
    of_text : (r : Result Num Reason) → with_number (Some r) f ≡ None → ⊥
    of_text (Ok n) e = h n e
    of_text (Err stop) e = cc
number_there (value.Object o) f p h e = cc

text_there : (v : Value) (f : List ℕ → Operated) → is_object v ≡ false → ((t : List ℕ) → f t ≡ None → ⊥) → with_text (text_of v) f ≡ None → ⊥
text_there value.Undefined f p h e = h _ e
text_there value.Null f p h e = h _ e
text_there (value.Bool b) f p h e = h _ e
text_there (value.Num n) f p h e = h _ e
text_there (value.Str text) f p h e = h _ e
text_there (value.Object o) f p h e = cc

numbers_there : (f : Num → Num → Result Value Reason) (v w : Value) → is_object v ≡ false → is_object w ≡ false → on_numbers f v w ≡ None → ⊥
numbers_there f v w p q e = number_there v _ p (λ a. number_there w (λ b. Some (f a b)) q (λ b e. cc)) e

sum_there : (b : Bool) (v w : Value) → is_object v ≡ false → is_object w ≡ false → (if b then joined_texts v w else computed sum_of v w) ≡ None → ⊥
sum_there true v w p q e = text_there v _ p (λ a. text_there w _ q (λ b e. cc)) e
sum_there false v w p q e = numbers_there _ v w p q e

-- a test that is false
not_so : {A : Type 0} (b : Bool) (x y : A) → b ≡ false → (if b then x else y) ≡ y
not_so b x y e = ap (λ b. if b then x else y) e

neither : (b c : Bool) → b ≡ false → c ≡ false → (b || c) ≡ false
neither true c e f = cc
neither false c e f = f

added_there : (v w : Value) → is_object v ≡ false → is_object w ≡ false → added_to v w ≡ None → ⊥
added_there v w p q e = sum_there (is_text v || is_text w) v w p q (sym (not_so (is_object v || is_object w) None _ (neither (is_object v) (is_object w) p q)) ∙ e)

order_there : (change : Option Bool → Bool) (x y : Value) → is_object x ≡ false → is_object y ≡ false → in_order change x y ≡ None → ⊥
order_there change x y p q e = by x y p q e
  where
    numbers : (x y : Value) → is_object x ≡ false → is_object y ≡ false → (if is_object x || is_object y then None else on_numbers (λ a b. truth_result change (less_of a b)) x y) ≡ None → ⊥
    numbers x y p q e = numbers_there _ x y p q (sym (not_so (is_object x || is_object y) None _ (neither (is_object x) (is_object y) p q)) ∙ e)

    by : (x y : Value) → is_object x ≡ false → is_object y ≡ false → in_order change x y ≡ None → ⊥
    by value.Undefined y p q e = numbers value.Undefined y p q e
    by value.Null y p q e = numbers value.Null y p q e
    by (value.Bool b) y p q e = numbers (value.Bool b) y p q e
    by (value.Num n) y p q e = numbers (value.Num n) y p q e
    by (value.Str a) value.Undefined p q e = numbers (value.Str a) value.Undefined p q e
    by (value.Str a) value.Null p q e = numbers (value.Str a) value.Null p q e
    by (value.Str a) (value.Bool b) p q e = numbers (value.Str a) (value.Bool b) p q e
    by (value.Str a) (value.Num n) p q e = numbers (value.Str a) (value.Num n) p q e
    by (value.Str a) (value.Str b) p q e = cc
    by (value.Str a) (value.Object o) p q e = cc
    by (value.Object o) y p q e = cc

-- ---- what is no function has nothing to run

no_callee : (c : Option Callee) → is_some c ≡ false → c ≡ None
no_callee None e = refl
no_callee (Some callee) e = cc

module _ (n : ℕ) (fs : List Frame) (vs : List Value) (heap : Heap) (hosts : List HostCall) (beats steps : ℕ) (out : Outside) where
  refused_by : (c : Option Class) (o : ℕ) → is_callable_by c hosts o ≡ false → callee_by c (state_of heap hosts beats steps out) o ≡ None
  refused_by None o e = refl
  refused_by (Some class.Array) o e = refl
  refused_by (Some class.Plain) o e = refl
  refused_by (Some class.Function) o e = no_callee (function_callee (which o) (map host_body hosts) o) e
  refused_by (Some class.Arguments) o e = refl
  refused_by (Some class.Error) o e = refl
  refused_by (Some class.Math) o e = refl

  refused : (f : Value) → is_callable heap hosts f ≡ false → callee_of (state_of heap hosts beats steps out) f ≡ None
  refused value.Undefined e = refl
  refused value.Null e = refl
  refused (value.Bool b) e = refl
  refused (value.Num m) e = refl
  refused (value.Str text) e = refl
  refused (value.Object f) e = refused_by (class_of heap f.0) f.0 e

  -- a run that throws a TypeError here
  abbrev Throws : Program → Type 0
  Throws p = running p n fs vs heap hosts beats steps out ≡ running throws_type_error n fs vs heap hosts beats steps out

  -- what is no function is not entered
  not_entered : (f : ObjectId) (o : ℕ) (k : Value → Program) (next : Program) → is_callable heap hosts (value.Object f) ≡ false → Throws (by_result o k next (value.Object f))
  not_entered f o k next e =
      let s = state_of heap hosts beats steps out in
      let ret = pop out.world (due out.world n) (stack fs vs) in
      ap
      (λ c.
      if_entered (entered c (object_value o) []) (λ p. due out.world n p (on_value (on_primitive k next) ∷ stack fs vs) s)
      (go out.world (due out.world n) (on_value (on_primitive k next) (Ends (Rattle.exceptions_core.specs.declared.completion.Completion.TheVariants.Throw (object_value (length heap))))) ret (stack fs vs) (with_object (error_object built.TypeErrorPrototype) s)))
      (refused (value.Object f) e)

  -- the last of two methods
  second_throws : (v : Value) (o : ℕ) (k : Value → Program) → is_callable heap hosts v ≡ false → Throws (by_result o k throws_type_error v)
  second_throws value.Undefined o k e = refl
  second_throws value.Null o k e = refl
  second_throws (value.Bool b) o k e = refl
  second_throws (value.Num m) o k e = refl
  second_throws (value.Str text) o k e = refl
  second_throws (value.Object f) o k e = not_entered f o k throws_type_error e

  both_throw : (v : Value) (name : Name) (o : ℕ) (k : Value → Program) → enters_by heap hosts v (property_of heap o name) ≡ false
      → Throws (by_result o k (by_method name o k throws_type_error) v)
  both_throw value.Undefined name o k e = second_throws (property_of heap o name) o k e
  both_throw value.Null name o k e = second_throws (property_of heap o name) o k e
  both_throw (value.Bool b) name o k e = second_throws (property_of heap o name) o k e
  both_throw (value.Num m) name o k e = second_throws (property_of heap o name) o k e
  both_throw (value.Str text) name o k e = second_throws (property_of heap o name) o k e
  both_throw (value.Object f) name o k e = not_entered f o k (by_method name o k throws_type_error) e

  -- ---- 8.6.2.6

  pub default_throws : (hint : Hint) (o : ℕ) (k : Value → Program) → enters heap hosts hint o ≡ false → Throws (default_value hint o k)
  default_throws HintString o k e = both_throw (property_of heap o to_string_name) value_of_name o k e
  default_throws HintNumber o k e = both_throw (property_of heap o value_of_name) to_string_name o k e

  -- ---- 9.1, 9.3, 9.8

  -- what is no object goes on
  primitive_goes : (hint : Hint) (v : Value) (k : Value → Program) → is_object v ≡ false → to_primitive hint v k ≡ k v
  primitive_goes hint value.Undefined k p = refl
  primitive_goes hint value.Null k p = refl
  primitive_goes hint (value.Bool b) k p = refl
  primitive_goes hint (value.Num m) k p = refl
  primitive_goes hint (value.Str text) k p = refl
  primitive_goes hint (value.Object o) k p = cc

  then_throws : (p q : Program) → p ≡ q → Throws q → Throws p
  then_throws p q e t = ap (λ p. running p n fs vs heap hosts beats steps out) e ∙ t

  object_number : (o : ObjectId) (k : Num → Program) → enters heap hosts HintNumber o.0 ≡ false → Throws (to_number (value.Object o) k)
  object_number o k e = default_throws HintNumber o.0 (λ p. primitive_number (number_of p) k) e

  pub number_throws : (v : Value) (k : Num → Program) → number_of v ≡ None → enters_value heap hosts HintNumber v ≡ false → Throws (to_number v k)
  number_throws value.Undefined k h e = cc
  number_throws value.Null k h e = cc
  number_throws (value.Bool b) k h e = cc
  number_throws (value.Num m) k h e = cc
  number_throws (value.Str text) k h e = cc
  number_throws (value.Object o) k h e = object_number o k e

  pub text_throws : (v : Value) (k : Name → Program) → text_of v ≡ None → enters_value heap hosts HintString v ≡ false → Throws (to_text v k)
  text_throws value.Undefined k h e = cc
  text_throws value.Null k h e = cc
  text_throws (value.Bool b) k h e = cc
  text_throws (value.Num m) k h e = cc
  text_throws (value.Str text) k h e = cc
  text_throws (value.Object o) k h e = default_throws HintString o.0 (λ p. k (primitive_text (text_of p))) e

  -- ---- operators

  -- of two that are converted, by which of them is an object
  abbrev NotEntered : Value → Value → Type 0
  NotEntered v w = enters_value heap hosts HintNumber (first_object v w) ≡ false

  second_of : (v w : Value) → is_object v ≡ false → NotEntered v w → enters_value heap hosts HintNumber w ≡ false
  second_of v w p e = sym (ap (enters_value heap hosts HintNumber) (not_so (is_object v) v w p)) ∙ e

  -- numbers: the left one is a number or stops before the right one is converted
  number_goes_on : (v : Value) (k : Num → Program) (f : Num → Operated) → is_object v ≡ false → with_number (number_of v) f ≡ None → ((m : Num) → f m ≡ None → Throws (k m)) → Throws (to_number v k)
  number_goes_on value.Undefined k f p h g = g _ h
  number_goes_on value.Null k f p h g = g _ h
  number_goes_on (value.Bool b) k f p h g = g _ h
  number_goes_on (value.Num m) k f p h g = g m h
  number_goes_on (value.Str text) k f p h g = of_text (Rattle.js_values.specs.NumberTexts.number_of_text text) h
    where
      of_text : (r : Result Num Reason) → with_number (Some r) f ≡ None → Throws (or_stop r k)
      of_text (Ok m) h = g m h
      of_text (Err stop) h = cc
  number_goes_on (value.Object o) k f p h g = cc

  abbrev behind_left : (Num → Num → Result Num Reason) → Value → (Value → Program) → Num → Program
  behind_left compute w k a = to_number w (λ b. or_stop (compute a b) (λ m. k (value.Num m)))

  arithmetic_by : (compute : Num → Num → Result Num Reason) {v w : Value} (k : Value → Program) → Sort v → Sort w → computed compute v w ≡ None → NotEntered v w → Throws (arithmetic compute v w k)
  arithmetic_by compute {w = w} k (an_object o) s h e = object_number o (behind_left compute w k) e
  arithmetic_by compute {v = v} k (primitive p) (an_object o) h e =
      number_goes_on v (behind_left compute (value.Object o) k) (λ a. with_number (number_of (value.Object o)) (λ b. Some (number_result (compute a b)))) p h
      (λ a g. object_number o (λ b. or_stop (compute a b) (λ m. k (value.Num m))) (second_of v (value.Object o) p e))
  arithmetic_by compute {v = v} {w = w} k (primitive p) (primitive q) h e = absurd (numbers_there (λ a b. number_result (compute a b)) v w p q h)

  arithmetic_throws : (compute : Num → Num → Result Num Reason) (v w : Value) (k : Value → Program) → computed compute v w ≡ None → NotEntered v w → Throws (arithmetic compute v w k)
  arithmetic_throws compute v w k h e = arithmetic_by compute k (sort_of v) (sort_of w) h e

  -- where both are made primitive first
  abbrev both : Value → Value → (Value → Value → Program) → Program
  both v w k = to_primitive HintNumber v (λ a. to_primitive HintNumber w (λ b. k a b))

  both_by : {v w : Value} (k : Value → Value → Program) → Sort v → Sort w → (is_object v ≡ false → is_object w ≡ false → ⊥) → NotEntered v w → Throws (both v w k)
  both_by {w = w} k (an_object o) s h e = default_throws HintNumber o.0 (λ a. to_primitive HintNumber w (λ b. k a b)) e
  both_by {v = v} k (primitive p) (an_object o) h e =
      then_throws (both v (value.Object o) k) (to_primitive HintNumber (value.Object o) (λ b. k v b))
      (primitive_goes HintNumber v (λ a. to_primitive HintNumber (value.Object o) (λ b. k a b)) p)
      (default_throws HintNumber o.0 (λ b. k v b) (second_of v (value.Object o) p e))
  both_by k (primitive p) (primitive q) h e = absurd (h p q)

  both_throws : (v w : Value) (k : Value → Value → Program) → (is_object v ≡ false → is_object w ≡ false → ⊥) → NotEntered v w → Throws (both v w k)
  both_throws v w k h e = both_by k (sort_of v) (sort_of w) h e

  equal_throws : (change : Bool → Bool) (v w : Value) (k : Bool → Program) → in_equality change v w ≡ None → NotEntered v w → Throws (equals v w k)
  equal_throws change (value.Object a) (value.Object b) k h e = cc
  equal_throws change (value.Object a) value.Undefined k h e = cc
  equal_throws change (value.Object a) value.Null k h e = cc
  equal_throws change (value.Object a) (value.Bool c) k h e = default_throws HintNumber a.0 (λ p. primitive_equal (equal_of p (value.Bool c)) k) e
  equal_throws change (value.Object a) (value.Num m) k h e = default_throws HintNumber a.0 (λ p. primitive_equal (equal_of p (value.Num m)) k) e
  equal_throws change (value.Object a) (value.Str other) k h e = default_throws HintNumber a.0 (λ p. primitive_equal (equal_of p (value.Str other)) k) e
  equal_throws change value.Undefined (value.Object b) k h e = cc
  equal_throws change value.Undefined value.Undefined k h e = cc
  equal_throws change value.Undefined value.Null k h e = cc
  equal_throws change value.Undefined (value.Bool c) k h e = cc
  equal_throws change value.Undefined (value.Num m) k h e = cc
  equal_throws change value.Undefined (value.Str other) k h e = cc
  equal_throws change value.Null (value.Object b) k h e = cc
  equal_throws change value.Null value.Undefined k h e = cc
  equal_throws change value.Null value.Null k h e = cc
  equal_throws change value.Null (value.Bool c) k h e = cc
  equal_throws change value.Null (value.Num m) k h e = cc
  equal_throws change value.Null (value.Str other) k h e = cc
  equal_throws change (value.Bool b) (value.Object a) k h e = default_throws HintNumber a.0 (λ p. primitive_equal (equal_of p (value.Bool b)) k) e
  equal_throws change (value.Bool b) value.Undefined k h e = cc
  equal_throws change (value.Bool b) value.Null k h e = cc
  equal_throws change (value.Bool b) (value.Bool c) k h e = cc
  equal_throws change (value.Bool b) (value.Num m) k h e = cc
  equal_throws change (value.Bool b) (value.Str other) k h e = cc
  equal_throws change (value.Num m) (value.Object a) k h e = default_throws HintNumber a.0 (λ p. primitive_equal (equal_of p (value.Num m)) k) e
  equal_throws change (value.Num m) value.Undefined k h e = cc
  equal_throws change (value.Num m) value.Null k h e = cc
  equal_throws change (value.Num m) (value.Bool c) k h e = cc
  equal_throws change (value.Num m) (value.Num l) k h e = cc
  equal_throws change (value.Num m) (value.Str other) k h e = cc
  equal_throws change (value.Str text) (value.Object a) k h e = default_throws HintNumber a.0 (λ p. primitive_equal (equal_of p (value.Str text)) k) e
  equal_throws change (value.Str text) value.Undefined k h e = cc
  equal_throws change (value.Str text) value.Null k h e = cc
  equal_throws change (value.Str text) (value.Bool c) k h e = cc
  equal_throws change (value.Str text) (value.Num m) k h e = cc
  equal_throws change (value.Str text) (value.Str other) k h e = cc

  pub operator_throws : (o : BinaryOp) (v w : Value) (k : Value → Program) → operated o v w ≡ None → enters_operated heap hosts o v w ≡ false → Throws (operate o v w k)
  operator_throws op.Multiply v w k h e = arithmetic_throws product_of v w k h e
  operator_throws op.Divide v w k h e = arithmetic_throws quotient_of v w k h e
  operator_throws op.Remainder v w k h e = arithmetic_throws (exactly remainder_of) v w k h e
  operator_throws op.Subtract v w k h e = arithmetic_throws difference_of v w k h e
  operator_throws op.ShiftLeft v w k h e = arithmetic_throws (exactly shifted_left) v w k h e
  operator_throws op.ShiftRight v w k h e = arithmetic_throws (exactly shifted_right) v w k h e
  operator_throws op.ShiftRightUnsigned v w k h e = arithmetic_throws (exactly shifted_right_unsigned) v w k h e
  operator_throws op.BitAnd v w k h e = arithmetic_throws (exactly (bitwise bit_and)) v w k h e
  operator_throws op.BitXor v w k h e = arithmetic_throws (exactly (bitwise bit_xor)) v w k h e
  operator_throws op.BitOr v w k h e = arithmetic_throws (exactly (bitwise bit_or)) v w k h e
  operator_throws op.Add v w k h e = both_throws v w (λ a b. if is_text a || is_text b then concatenated a b k else arithmetic sum_of a b k) (λ p q. added_there v w p q h) e
  operator_throws op.Less v w k h e = both_throws v w (λ a b. primitive_less a b (λ c. k (value.Bool (is_so c)))) (λ p q. order_there is_so v w p q h) e
  operator_throws op.Greater v w k h e = both_throws w v (λ a b. primitive_less a b (λ c. k (value.Bool (is_so c)))) (λ p q. order_there is_so w v p q h) e
  operator_throws op.LessEqual v w k h e = both_throws w v (λ a b. primitive_less a b (λ c. k (value.Bool (is_not_so c)))) (λ p q. order_there is_not_so w v p q h) e
  operator_throws op.GreaterEqual v w k h e = both_throws v w (λ a b. primitive_less a b (λ c. k (value.Bool (is_not_so c)))) (λ p q. order_there is_not_so v w p q h) e
  operator_throws op.InstanceOf v w k h e = cc
  operator_throws op.In v w k h e = cc
  operator_throws op.Equal v w k h e = equal_throws (λ b. b) v w (λ b. k (value.Bool b)) h e
  operator_throws op.NotEqual v w k h e = equal_throws not v w (λ b. k (value.Bool (not b))) h e
  operator_throws op.Same v w k h e = cc
  operator_throws op.NotSame v w k h e = cc

  unary_by : (o : PrefixOp) {v : Value} → Sort v → unary_of o v ≡ None → enters_value heap hosts HintNumber v ≡ false → Throws (unary o v)
  unary_by prefix.Plus (an_object a) h e = object_number a (λ m. gives (value.Num m)) e
  unary_by prefix.Minus (an_object a) h e = object_number a (λ m. gives (value.Num (number_by prefix.Minus m))) e
  unary_by prefix.BitNot (an_object a) h e = object_number a (λ m. gives (value.Num (number_by prefix.BitNot m))) e
  unary_by prefix.Plus {v = v} (primitive p) h e = absurd (number_there v (λ m. Some (Ok (value.Num (number_by prefix.Plus m)))) p (λ m g. cc) h)
  unary_by prefix.Minus {v = v} (primitive p) h e = absurd (number_there v (λ m. Some (Ok (value.Num (number_by prefix.Minus m)))) p (λ m g. cc) h)
  unary_by prefix.BitNot {v = v} (primitive p) h e = absurd (number_there v (λ m. Some (Ok (value.Num (number_by prefix.BitNot m)))) p (λ m g. cc) h)
  unary_by prefix.Void s h e = cc
  unary_by prefix.Not s h e = cc
  unary_by prefix.Delete s h e = cc
  unary_by prefix.TypeOf s h e = cc
  unary_by prefix.Increment s h e = cc
  unary_by prefix.Decrement s h e = cc

  pub unary_throws : (o : PrefixOp) (v : Value) → unary_of o v ≡ None → enters_value heap hosts HintNumber v ≡ false → Throws (unary o v)
  unary_throws o v h e = unary_by o (sort_of v) h e
