-- An operator whose result is there asks for nothing more.
use Rattle.std.proofs.Common.{◌≡◌, ℕ, ◌^◌, Bool, true, false, List, ◌++◌, length, Option, Some, None, refl, ap, ◌∙◌}
use Rattle.std.specs.Prelude.{Result, Ok, Err, not, ◌||◌, nat_le, if◌then◌else◌, bit_and, bit_or, bit_xor}
use Rattle.js_values.specs.declared.number.Num.{Num}
use Rattle.js_values.specs.declared.reason.Reason.{Reason}
use Rattle.js_values.specs.declared.value.Value.{Value}
use Rattle.js_values.specs.declared.value.Value.TheVariants as value
use Rattle.js_values.specs.Equality.{equal_of}
use Rattle.js_values.specs.Numbers.{less_of, sum_of, difference_of, product_of, quotient_of, remainder_of}
use Rattle.js_values.specs.Integers.{shifted_left, shifted_right, shifted_right_unsigned}
use Rattle.js_values.specs.Values.{number_of, text_of}
use Rattle.js_tree.specs.declared.tree.BinaryOp.{BinaryOp}
use Rattle.js_tree.specs.declared.tree.BinaryOp.TheVariants as op
use Rattle.js_machine.specs.Asks.{Program, Stop}
use Rattle.js_machine.specs.State.{State}
use Rattle.js_machine.specs.Conversions.{to_number, to_text, or_stop, text_or_stop}
use Rattle.js_machine.specs.Operators.{bitwise, exactly, is_so, is_not_so}
use Rattle.js_machine.specs.Operators.{operate, arithmetic, added, concatenated, order, equals, is_text, primitive_equal}
use Rattle.js_machine.specs.Run.{World, Next, Return, Stack, Stopped, go}
use Rattle.js_machine.specs.Operated.{Operated, operated, with_number, number_result, on_numbers, computed, text_result, with_text, joined_texts, added_to, truth_result, in_order, changed_truth, changed_equality, in_equality}

-- where a program goes on from a result, or stops
pub data GoesOn : Program → (Value → Program) → Operated → Type 0 where
  goes_on : {p : Program} {k : Value → Program} {r : Value} → p ≡ k r → GoesOn p k (Some (Ok r))
  stops : {p : Program} {k : Value → Program} {stop : Reason} → p ≡ Stop stop → GoesOn p k (Some (Err stop))
  asks : {p : Program} {k : Value → Program} → GoesOn p k None

-- ---- numbers

pub number_goes : (v : Value) (k : Num → Program) (m : Value → Program) (f : Num → Operated)
    → ((n : Num) → GoesOn (k n) m (f n)) → GoesOn (to_number v k) m (with_number (number_of v) f)
number_goes value.Undefined k m f h = h _
number_goes value.Null k m f h = h _
number_goes (value.Bool b) k m f h = h _
number_goes (value.Num n) k m f h = h n
number_goes (value.Str text) k m f h = of_text (Rattle.js_values.specs.NumberTexts.number_of_text text)
  where
    of_text : (r : Result Num Reason) → GoesOn (or_stop r k) m (with_number (Some r) f)
    of_text (Ok n) = h n
    of_text (Err stop) = stops refl
number_goes (value.Object o) k m f h = asks

arithmetic_goes : (compute : Num → Num → Result Num Reason) (v w : Value) (k : Value → Program) → GoesOn (arithmetic compute v w k) k (computed compute v w)
arithmetic_goes compute v w k =
    number_goes v (λ a. to_number w (λ b. or_stop (compute a b) (λ n. k (value.Num n)))) k _
    (λ a. number_goes w (λ b. or_stop (compute a b) (λ n. k (value.Num n))) k _ (λ b. result (compute a b)))
  where
    result : (r : Result Num Reason) → GoesOn (or_stop r (λ n. k (value.Num n))) k (Some (number_result r))
    result (Ok n) = goes_on refl
    result (Err stop) = stops refl

-- ---- +

text_goes : (text : List ℕ) (k : Value → Program) → GoesOn (text_or_stop text (λ t. k (value.Str t))) k (Some (text_result text))
text_goes text k = by_length (nat_le (length text) (2 ^ 26))
  where
    by_length : (b : Bool) → GoesOn (if b then k (value.Str text) else Stop Rattle.js_values.specs.declared.reason.Reason.TheVariants.LongText) k (Some (if b then Ok (value.Str text) else Err Rattle.js_values.specs.declared.reason.Reason.TheVariants.LongText))
    by_length true = goes_on refl
    by_length false = stops refl

string_goes : (v : Value) (k : List ℕ → Program) (m : Value → Program) (f : List ℕ → Operated)
    → ((t : List ℕ) → GoesOn (k t) m (f t)) → GoesOn (to_text v k) m (with_text (text_of v) f)
string_goes value.Undefined k m f h = h _
string_goes value.Null k m f h = h _
string_goes (value.Bool b) k m f h = h _
string_goes (value.Num n) k m f h = h _
string_goes (value.Str text) k m f h = h _
string_goes (value.Object o) k m f h = asks

join_goes : (v w : Value) (k : Value → Program) → GoesOn (concatenated v w k) k (joined_texts v w)
join_goes v w k =
    string_goes v (λ a. to_text w (λ b. text_or_stop (a ++ b) (λ t. k (value.Str t)))) k _
    (λ a. string_goes w (λ b. text_or_stop (a ++ b) (λ t. k (value.Str t))) k _ (λ b. text_goes (a ++ b) k))

primitives_add : (v w : Value) (k : Value → Program) (b : Bool)
    → GoesOn (if b then concatenated v w k else arithmetic sum_of v w k) k (if b then joined_texts v w else computed sum_of v w)
primitives_add v w k true = join_goes v w k
primitives_add v w k false = arithmetic_goes sum_of v w k

add_goes : (v w : Value) (k : Value → Program) → GoesOn (added v w k) k (added_to v w)
add_goes (value.Object o) w k = asks
add_goes value.Undefined (value.Object o) k = asks
add_goes value.Undefined value.Undefined k = primitives_add value.Undefined value.Undefined k (is_text value.Undefined || is_text value.Undefined)
add_goes value.Undefined value.Null k = primitives_add value.Undefined value.Null k (is_text value.Undefined || is_text value.Null)
add_goes value.Undefined (value.Bool c) k = primitives_add value.Undefined (value.Bool c) k (is_text value.Undefined || is_text (value.Bool c))
add_goes value.Undefined (value.Num m) k = primitives_add value.Undefined (value.Num m) k (is_text value.Undefined || is_text (value.Num m))
add_goes value.Undefined (value.Str other) k = primitives_add value.Undefined (value.Str other) k (is_text value.Undefined || is_text (value.Str other))
add_goes value.Null (value.Object o) k = asks
add_goes value.Null value.Undefined k = primitives_add value.Null value.Undefined k (is_text value.Null || is_text value.Undefined)
add_goes value.Null value.Null k = primitives_add value.Null value.Null k (is_text value.Null || is_text value.Null)
add_goes value.Null (value.Bool c) k = primitives_add value.Null (value.Bool c) k (is_text value.Null || is_text (value.Bool c))
add_goes value.Null (value.Num m) k = primitives_add value.Null (value.Num m) k (is_text value.Null || is_text (value.Num m))
add_goes value.Null (value.Str other) k = primitives_add value.Null (value.Str other) k (is_text value.Null || is_text (value.Str other))
add_goes (value.Bool b) (value.Object o) k = asks
add_goes (value.Bool b) value.Undefined k = primitives_add (value.Bool b) value.Undefined k (is_text (value.Bool b) || is_text value.Undefined)
add_goes (value.Bool b) value.Null k = primitives_add (value.Bool b) value.Null k (is_text (value.Bool b) || is_text value.Null)
add_goes (value.Bool b) (value.Bool c) k = primitives_add (value.Bool b) (value.Bool c) k (is_text (value.Bool b) || is_text (value.Bool c))
add_goes (value.Bool b) (value.Num m) k = primitives_add (value.Bool b) (value.Num m) k (is_text (value.Bool b) || is_text (value.Num m))
add_goes (value.Bool b) (value.Str other) k = primitives_add (value.Bool b) (value.Str other) k (is_text (value.Bool b) || is_text (value.Str other))
add_goes (value.Num n) (value.Object o) k = asks
add_goes (value.Num n) value.Undefined k = primitives_add (value.Num n) value.Undefined k (is_text (value.Num n) || is_text value.Undefined)
add_goes (value.Num n) value.Null k = primitives_add (value.Num n) value.Null k (is_text (value.Num n) || is_text value.Null)
add_goes (value.Num n) (value.Bool c) k = primitives_add (value.Num n) (value.Bool c) k (is_text (value.Num n) || is_text (value.Bool c))
add_goes (value.Num n) (value.Num m) k = primitives_add (value.Num n) (value.Num m) k (is_text (value.Num n) || is_text (value.Num m))
add_goes (value.Num n) (value.Str other) k = primitives_add (value.Num n) (value.Str other) k (is_text (value.Num n) || is_text (value.Str other))
add_goes (value.Str text) (value.Object o) k = asks
add_goes (value.Str text) value.Undefined k = primitives_add (value.Str text) value.Undefined k (is_text (value.Str text) || is_text value.Undefined)
add_goes (value.Str text) value.Null k = primitives_add (value.Str text) value.Null k (is_text (value.Str text) || is_text value.Null)
add_goes (value.Str text) (value.Bool c) k = primitives_add (value.Str text) (value.Bool c) k (is_text (value.Str text) || is_text (value.Bool c))
add_goes (value.Str text) (value.Num m) k = primitives_add (value.Str text) (value.Num m) k (is_text (value.Str text) || is_text (value.Num m))
add_goes (value.Str text) (value.Str other) k = primitives_add (value.Str text) (value.Str other) k (is_text (value.Str text) || is_text (value.Str other))

-- ---- order

order_numbers : (change : Option Bool → Bool) (x y : Value) (k : Value → Program)
    → GoesOn (to_number x (λ a. to_number y (λ b. k (value.Bool (change (less_of a b)))))) k (on_numbers (λ a b. truth_result change (less_of a b)) x y)
order_numbers change x y k =
    number_goes x (λ a. to_number y (λ b. k (value.Bool (change (less_of a b))))) k _
    (λ a. number_goes y (λ b. k (value.Bool (change (less_of a b)))) k _ (λ b. goes_on refl))

order_goes : (change : Option Bool → Bool) (x y : Value) (k : Value → Program) → GoesOn (order change x y k) k (in_order change x y)
order_goes change (value.Object o) y k = asks
order_goes change value.Undefined (value.Object o) k = asks
order_goes change value.Undefined value.Undefined k = order_numbers change value.Undefined value.Undefined k
order_goes change value.Undefined value.Null k = order_numbers change value.Undefined value.Null k
order_goes change value.Undefined (value.Bool c) k = order_numbers change value.Undefined (value.Bool c) k
order_goes change value.Undefined (value.Num m) k = order_numbers change value.Undefined (value.Num m) k
order_goes change value.Undefined (value.Str other) k = order_numbers change value.Undefined (value.Str other) k
order_goes change value.Null (value.Object o) k = asks
order_goes change value.Null value.Undefined k = order_numbers change value.Null value.Undefined k
order_goes change value.Null value.Null k = order_numbers change value.Null value.Null k
order_goes change value.Null (value.Bool c) k = order_numbers change value.Null (value.Bool c) k
order_goes change value.Null (value.Num m) k = order_numbers change value.Null (value.Num m) k
order_goes change value.Null (value.Str other) k = order_numbers change value.Null (value.Str other) k
order_goes change (value.Bool b) (value.Object o) k = asks
order_goes change (value.Bool b) value.Undefined k = order_numbers change (value.Bool b) value.Undefined k
order_goes change (value.Bool b) value.Null k = order_numbers change (value.Bool b) value.Null k
order_goes change (value.Bool b) (value.Bool c) k = order_numbers change (value.Bool b) (value.Bool c) k
order_goes change (value.Bool b) (value.Num m) k = order_numbers change (value.Bool b) (value.Num m) k
order_goes change (value.Bool b) (value.Str other) k = order_numbers change (value.Bool b) (value.Str other) k
order_goes change (value.Num n) (value.Object o) k = asks
order_goes change (value.Num n) value.Undefined k = order_numbers change (value.Num n) value.Undefined k
order_goes change (value.Num n) value.Null k = order_numbers change (value.Num n) value.Null k
order_goes change (value.Num n) (value.Bool c) k = order_numbers change (value.Num n) (value.Bool c) k
order_goes change (value.Num n) (value.Num m) k = order_numbers change (value.Num n) (value.Num m) k
order_goes change (value.Num n) (value.Str other) k = order_numbers change (value.Num n) (value.Str other) k
order_goes change (value.Str text) (value.Object o) k = asks
order_goes change (value.Str text) value.Undefined k = order_numbers change (value.Str text) value.Undefined k
order_goes change (value.Str text) value.Null k = order_numbers change (value.Str text) value.Null k
order_goes change (value.Str text) (value.Bool c) k = order_numbers change (value.Str text) (value.Bool c) k
order_goes change (value.Str text) (value.Num m) k = order_numbers change (value.Str text) (value.Num m) k
order_goes change (value.Str text) (value.Str other) k = goes_on refl

-- ---- equality, which asks whether two objects are one

-- where a run goes on from a result, or stops
pub data RunsOn (world : World) (next : Next) (ret : Return) (ks : Stack) (s : State) : Program → (Value → Program) → Operated → Type 0 where
  runs_on : {p : Program} {k : Value → Program} {r : Value} → go world next p ret ks s ≡ go world next (k r) ret ks s → RunsOn world next ret ks s p k (Some (Ok r))
  run_stops : {p : Program} {k : Value → Program} {stop : Reason} → go world next p ret ks s ≡ Stopped stop s → RunsOn world next ret ks s p k (Some (Err stop))
  run_asks : {p : Program} {k : Value → Program} → RunsOn world next ret ks s p k None

module _ (world : World) (next : Next) (ret : Return) (ks : Stack) (s : State) where
  runs : (p : Program) (k : Value → Program) (r : Operated) → GoesOn p k r → RunsOn world next ret ks s p k r
  runs p k (Some (Ok r)) (goes_on e) = runs_on (ap (λ p. go world next p ret ks s) e)
  runs p k (Some (Err stop)) (stops e) = run_stops (ap (λ p. go world next p ret ks s) e)
  runs p k None asks = run_asks

  truth_runs : (change : Bool → Bool) (r : Result Bool Reason) (k : Value → Program)
      → RunsOn world next ret ks s (or_stop r (λ b. k (value.Bool (change b)))) k (Some (changed_truth change r))
  truth_runs change (Ok b) k = runs_on refl
  truth_runs change (Err stop) k = run_stops refl

  equality_runs : (change : Bool → Bool) (r : Option (Result Bool Reason)) (k : Value → Program)
      → RunsOn world next ret ks s (primitive_equal r (λ b. k (value.Bool (change b)))) k (changed_equality change r)
  equality_runs change (Some r) k = truth_runs change r k
  equality_runs change None k = run_asks

  equal_runs : (change : Bool → Bool) (v w : Value) (k : Value → Program)
      → RunsOn world next ret ks s (equals v w (λ b. k (value.Bool (change b)))) k (in_equality change v w)
  equal_runs change (value.Object a) (value.Object b) k = runs_on refl
  equal_runs change (value.Object a) value.Undefined k = runs_on refl
  equal_runs change (value.Object a) value.Null k = runs_on refl
  equal_runs change (value.Object a) (value.Bool c) k = run_asks
  equal_runs change (value.Object a) (value.Num m) k = run_asks
  equal_runs change (value.Object a) (value.Str other) k = run_asks
  equal_runs change value.Undefined (value.Object b) k = runs_on refl
  equal_runs change value.Undefined value.Undefined k = equality_runs change (equal_of value.Undefined value.Undefined) k
  equal_runs change value.Undefined value.Null k = equality_runs change (equal_of value.Undefined value.Null) k
  equal_runs change value.Undefined (value.Bool c) k = equality_runs change (equal_of value.Undefined (value.Bool c)) k
  equal_runs change value.Undefined (value.Num m) k = equality_runs change (equal_of value.Undefined (value.Num m)) k
  equal_runs change value.Undefined (value.Str other) k = equality_runs change (equal_of value.Undefined (value.Str other)) k
  equal_runs change value.Null (value.Object b) k = runs_on refl
  equal_runs change value.Null value.Undefined k = equality_runs change (equal_of value.Null value.Undefined) k
  equal_runs change value.Null value.Null k = equality_runs change (equal_of value.Null value.Null) k
  equal_runs change value.Null (value.Bool c) k = equality_runs change (equal_of value.Null (value.Bool c)) k
  equal_runs change value.Null (value.Num m) k = equality_runs change (equal_of value.Null (value.Num m)) k
  equal_runs change value.Null (value.Str other) k = equality_runs change (equal_of value.Null (value.Str other)) k
  equal_runs change (value.Bool b) (value.Object a) k = run_asks
  equal_runs change (value.Bool b) value.Undefined k = equality_runs change (equal_of (value.Bool b) value.Undefined) k
  equal_runs change (value.Bool b) value.Null k = equality_runs change (equal_of (value.Bool b) value.Null) k
  equal_runs change (value.Bool b) (value.Bool c) k = equality_runs change (equal_of (value.Bool b) (value.Bool c)) k
  equal_runs change (value.Bool b) (value.Num m) k = equality_runs change (equal_of (value.Bool b) (value.Num m)) k
  equal_runs change (value.Bool b) (value.Str other) k = equality_runs change (equal_of (value.Bool b) (value.Str other)) k
  equal_runs change (value.Num n) (value.Object a) k = run_asks
  equal_runs change (value.Num n) value.Undefined k = equality_runs change (equal_of (value.Num n) value.Undefined) k
  equal_runs change (value.Num n) value.Null k = equality_runs change (equal_of (value.Num n) value.Null) k
  equal_runs change (value.Num n) (value.Bool c) k = equality_runs change (equal_of (value.Num n) (value.Bool c)) k
  equal_runs change (value.Num n) (value.Num m) k = equality_runs change (equal_of (value.Num n) (value.Num m)) k
  equal_runs change (value.Num n) (value.Str other) k = equality_runs change (equal_of (value.Num n) (value.Str other)) k
  equal_runs change (value.Str text) (value.Object a) k = run_asks
  equal_runs change (value.Str text) value.Undefined k = equality_runs change (equal_of (value.Str text) value.Undefined) k
  equal_runs change (value.Str text) value.Null k = equality_runs change (equal_of (value.Str text) value.Null) k
  equal_runs change (value.Str text) (value.Bool c) k = equality_runs change (equal_of (value.Str text) (value.Bool c)) k
  equal_runs change (value.Str text) (value.Num m) k = equality_runs change (equal_of (value.Str text) (value.Num m)) k
  equal_runs change (value.Str text) (value.Str other) k = equality_runs change (equal_of (value.Str text) (value.Str other)) k

  pub operator_runs : (o : BinaryOp) (v w : Value) (k : Value → Program) → RunsOn world next ret ks s (operate o v w k) k (operated o v w)
  operator_runs op.Multiply v w k = runs (operate op.Multiply v w k) k (operated op.Multiply v w) (arithmetic_goes product_of v w k)
  operator_runs op.Divide v w k = runs (operate op.Divide v w k) k (operated op.Divide v w) (arithmetic_goes quotient_of v w k)
  operator_runs op.Remainder v w k = runs (operate op.Remainder v w k) k (operated op.Remainder v w) (arithmetic_goes (exactly remainder_of) v w k)
  operator_runs op.Subtract v w k = runs (operate op.Subtract v w k) k (operated op.Subtract v w) (arithmetic_goes difference_of v w k)
  operator_runs op.ShiftLeft v w k = runs (operate op.ShiftLeft v w k) k (operated op.ShiftLeft v w) (arithmetic_goes (exactly shifted_left) v w k)
  operator_runs op.ShiftRight v w k = runs (operate op.ShiftRight v w k) k (operated op.ShiftRight v w) (arithmetic_goes (exactly shifted_right) v w k)
  operator_runs op.ShiftRightUnsigned v w k = runs (operate op.ShiftRightUnsigned v w k) k (operated op.ShiftRightUnsigned v w) (arithmetic_goes (exactly shifted_right_unsigned) v w k)
  operator_runs op.BitAnd v w k = runs (operate op.BitAnd v w k) k (operated op.BitAnd v w) (arithmetic_goes (exactly (bitwise bit_and)) v w k)
  operator_runs op.BitXor v w k = runs (operate op.BitXor v w k) k (operated op.BitXor v w) (arithmetic_goes (exactly (bitwise bit_xor)) v w k)
  operator_runs op.BitOr v w k = runs (operate op.BitOr v w k) k (operated op.BitOr v w) (arithmetic_goes (exactly (bitwise bit_or)) v w k)
  operator_runs op.Add v w k = runs (added v w k) k (added_to v w) (add_goes v w k)
  operator_runs op.Less v w k = runs (order is_so v w k) k (in_order is_so v w) (order_goes is_so v w k)
  operator_runs op.Greater v w k = runs (order is_so w v k) k (in_order is_so w v) (order_goes is_so w v k)
  operator_runs op.LessEqual v w k = runs (order is_not_so w v k) k (in_order is_not_so w v) (order_goes is_not_so w v k)
  operator_runs op.GreaterEqual v w k = runs (order is_not_so v w k) k (in_order is_not_so v w) (order_goes is_not_so v w k)
  operator_runs op.InstanceOf v w k = run_asks
  operator_runs op.In v w k = run_asks
  operator_runs op.Equal v w k = equal_runs (λ b. b) v w k
  operator_runs op.NotEqual v w k = equal_runs not v w k
  operator_runs op.Same v w k = runs_on refl
  operator_runs op.NotSame v w k = runs_on refl

  result_of : (p : Program) (k : Value → Program) (x : Operated) (r : Value) → RunsOn world next ret ks s p k x → x ≡ Some (Ok r) → go world next p ret ks s ≡ go world next (k r) ret ks s
  result_of p k (Some (Ok given)) r (runs_on e) h = let same : given ≡ r = cc in e ∙ ap (λ r. go world next (k r) ret ks s) same
  result_of p k (Some (Err stop)) r (run_stops e) h = cc
  result_of p k None r run_asks h = cc

  stop_of : (p : Program) (k : Value → Program) (x : Operated) (stop : Reason) → RunsOn world next ret ks s p k x → x ≡ Some (Err stop) → go world next p ret ks s ≡ Stopped stop s
  stop_of p k (Some (Ok given)) stop (runs_on e) h = cc
  stop_of p k (Some (Err reason)) stop (run_stops e) h = let same : reason ≡ stop = cc in e ∙ ap (λ r. Stopped r s) same
  stop_of p k None stop run_asks h = cc

  pub operator_gives : (o : BinaryOp) (v w : Value) (k : Value → Program) (r : Value) → operated o v w ≡ Some (Ok r) → go world next (operate o v w k) ret ks s ≡ go world next (k r) ret ks s
  operator_gives o v w k r h = result_of (operate o v w k) k (operated o v w) r (operator_runs o v w k) h

  pub operator_stops : (o : BinaryOp) (v w : Value) (k : Value → Program) (stop : Reason) → operated o v w ≡ Some (Err stop) → go world next (operate o v w k) ret ks s ≡ Stopped stop s
  operator_stops o v w k stop h = stop_of (operate o v w k) k (operated o v w) stop (operator_runs o v w k) h
