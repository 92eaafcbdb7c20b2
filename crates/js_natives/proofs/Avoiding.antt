-- A native passes no object on that it was not given.
use Rattle.std.proofs.Common.{◌≡◌, ℕ, zero, suc, ◌+◌, ◌-◌, Bool, true, false, List, [], ◌∷◌, refl}
use Rattle.std.specs.Prelude.{◌==◌, ◌++◌, ◌/◌, map, min, is_some, if◌then◌else◌, drop, length, ℤ, pos, negsuc, Result, Ok, Err, nat_lt, nat_le, ◌&&◌}
use Rattle.std.specs.List.{flat_map}
use Rattle.js_values.specs.declared.number.Num.{Num}
use Rattle.js_values.specs.declared.number.Num.TheVariants as number
use Rattle.js_values.specs.declared.reason.Reason.{Reason}
use Rattle.js_values.specs.declared.value.Value.{Value}
use Rattle.js_values.specs.declared.value.Value.TheVariants as value
use Rattle.js_values.specs.Integers.{uint32_of, int32_of}
use Rattle.js_values.specs.NumberTexts.{behind, is_blank, is_negative, without_sign}
use Rattle.object_heap.specs.declared.built_in.BuiltIn.{BuiltIn}
use Rattle.object_heap.specs.declared.built_in.BuiltIn.TheVariants as built
use Rattle.object_heap.specs.declared.object.Class.{Class}
use Rattle.object_heap.specs.declared.object.Class.TheVariants as class
use Rattle.object_heap.specs.Laws.{is_object}
use Rattle.object_heap.specs.Arrays.{whole}
use Rattle.object_heap.specs.Names.{Name, decimal, length_name}
use Rattle.js_natives.specs.declared.answer.Answer.{Answer}
use Rattle.js_natives.specs.declared.native.Native.{Native}
use Rattle.js_natives.specs.declared.native.Native.TheVariants as native
use Rattle.js_natives.specs.Program.{Program, Done}
use Rattle.js_natives.specs.Asks as asks
use Rattle.js_natives.specs.Asks.{Asks}
use Rattle.js_natives.specs.This as this
use Rattle.js_natives.specs.This.{global}
use Rattle.js_natives.specs.Convert as convert
use Rattle.js_natives.specs.Convert.{This, Kind, Takes, argument}
use Rattle.js_natives.specs.Objects as objects
use Rattle.js_natives.specs.Arrays as arrays
use Rattle.js_natives.specs.Moves as moves
use Rattle.js_natives.specs.Strings as strings
use Rattle.js_natives.specs.Numbers as numbers
use Rattle.js_natives.specs.MathNatives as math
use Rattle.js_natives.specs.Errors as errors
use Rattle.js_natives.specs.Globals as globals
use Rattle.js_natives.specs.Indices.{indices, downward}
use Rattle.js_natives.specs.Natives.{Plan, Converts, Goes, Enters, plan_of, planned}
use Rattle.js_natives.specs.Laws.{AllFree, Avoids, NativesAvoid}

module _ (f : ℕ) (g : (global == f) ≡ false) where
  abbrev Free : Value → Type 0
  Free v = is_object f v ≡ false

  -- ---- choices and texts

  chosen : {A : Type 0} (b : Bool) (m n : Asks A) (k : A → Program) → Avoids f (m k) → Avoids f (n k) → Avoids f ((if b then m else n) k)
  chosen true m n k h i = h
  chosen false m n k h i = i

  either : (b : Bool) (p q : Program) → Avoids f p → Avoids f q → Avoids f (if b then p else q)
  either true p q h i = h
  either false p q h i = i

  made : (s : Name) (k : Name → Program) → ((s : Name) → Avoids f (k s)) → Avoids f (asks.made_text s k)
  made s k h = chosen (nat_le (length s) asks.longest_text) (asks.pure s) (asks.stop _) k (h s) tt

  text_ended : (s : Name) → Avoids f (asks.made_text s (λ s. asks.text_answer s Done))
  text_ended s = made s (λ s. asks.text_answer s Done) (λ s. refl)

  -- ---- `this` and arguments

  an_object : (v : Value) (k : ℕ → Program) → Free v → ((o : ℕ) → (o == f) ≡ false → Avoids f (k o)) → Avoids f (this.this_object v k)
  an_object value.Undefined k e h = h global g
  an_object value.Null k e h = h global g
  an_object (value.Bool b) k e h = tt
  an_object (value.Num n) k e h = tt
  an_object (value.Str s) k e h = tt
  an_object (value.Object o) k e h = h (o.0) e

  a_truth : (v : Value) (k : Bool → Program) → ((b : Bool) → Avoids f (k b)) → Avoids f (this.this_truth v k)
  a_truth value.Undefined k h = tt
  a_truth value.Null k h = tt
  a_truth (value.Bool b) k h = h b
  a_truth (value.Num n) k h = tt
  a_truth (value.Str s) k h = tt
  a_truth (value.Object o) k h = tt

  a_number : (v : Value) (k : Num → Program) → ((n : Num) → Avoids f (k n)) → Avoids f (this.this_number v k)
  a_number value.Undefined k h = tt
  a_number value.Null k h = tt
  a_number (value.Bool b) k h = tt
  a_number (value.Num n) k h = h n
  a_number (value.Str s) k h = tt
  a_number (value.Object o) k h = tt

  a_text : (v : Value) (k : Name → Program) → ((s : Name) → Avoids f (k s)) → Avoids f (this.this_text v k)
  a_text value.Undefined k h = tt
  a_text value.Null k h = tt
  a_text (value.Bool b) k h = tt
  a_text (value.Num n) k h = tt
  a_text (value.Str s) k h = h s
  a_text (value.Object o) k h = tt

  a_value : (v : Value) → Free v → Free (this.this_value v)
  a_value value.Undefined e = g
  a_value value.Null e = g
  a_value (value.Bool b) e = refl
  a_value (value.Num n) e = refl
  a_value (value.Str s) e = refl
  a_value (value.Object o) e = e

  this_made : (t : This) (v : Value) (k : Value → Program) → Free v → ((u : Value) → Free u → Avoids f (k u)) → Avoids f (convert.this_converted t v k)
  this_made convert.Unseen v k e h = h v e
  this_made convert.AnObject v k e h = an_object v (λ o. k (asks.the_object o)) e (λ o e. h (asks.the_object o) e)
  this_made convert.ATruth v k e h = a_truth v (λ b. k (value.Bool b)) (λ b. h (value.Bool b) refl)
  this_made convert.ANumber v k e h = a_number v (λ n. k (value.Num n)) (λ n. h (value.Num n) refl)
  this_made convert.AText v k e h = a_text v (λ s. k (value.Str s)) (λ s. h (value.Str s) refl)
  this_made convert.MadeText v k e h = (a_value v e, λ s. h (value.Str s) refl)

  if_any : (m : Value → Asks Value) → ((v : Value) (k : Value → Program) → Free v → ((u : Value) → Free u → Avoids f (k u)) → Avoids f (m v k)) → (v : Value) (k : Value → Program) → Free v → ((u : Value) → Free u → Avoids f (k u)) → Avoids f (convert.if_any m v k)
  if_any m i value.Undefined k e h = h value.Undefined refl
  if_any m i value.Null k e h = i value.Null k e h
  if_any m i (value.Bool b) k e h = i (value.Bool b) k e h
  if_any m i (value.Num n) k e h = i (value.Num n) k e h
  if_any m i (value.Str s) k e h = i (value.Str s) k e h
  if_any m i (value.Object o) k e h = i (value.Object o) k e h

  text_made : (v : Value) (k : Value → Program) → Free v → ((u : Value) → Free u → Avoids f (k u)) → Avoids f (convert.made_text_of v k)
  text_made v k e h = (e, λ s. h (value.Str s) refl)

  number_made : (v : Value) (k : Value → Program) → Free v → ((u : Value) → Free u → Avoids f (k u)) → Avoids f (convert.made_number_of v k)
  number_made v k e h = (e, λ n. h (value.Num n) refl)

  one_made : (kind : Kind) (v : Value) (k : Value → Program) → Free v → ((u : Value) → Free u → Avoids f (k u)) → Avoids f (convert.argument_converted kind v k)
  one_made convert.Kept v k e h = h v e
  one_made convert.ToText v k e h = text_made v k e h
  one_made convert.ToNumber v k e h = number_made v k e h
  one_made convert.ToTextIfAny v k e h = if_any convert.made_text_of text_made v k e h
  one_made convert.ToNumberIfAny v k e h = if_any convert.made_number_of number_made v k e h

  all_made : (kinds : List Kind) (others : Kind) (vs : List Value) (k : List Value → Program) → AllFree f vs → ((us : List Value) → AllFree f us → Avoids f (k us)) → Avoids f (convert.arguments_converted kinds others vs k)
  all_made kinds others [] k e h = h [] tt
  all_made [] others (v ∷ vs) k e h = one_made others v (λ u. convert.arguments_converted [] others vs (λ us. k (u ∷ us))) (e.0) (λ u i. all_made [] others vs (λ us. k (u ∷ us)) (e.1) (λ us j. h (u ∷ us) (i, j)))
  all_made (kind ∷ kinds) others (v ∷ vs) k e h = one_made kind v (λ u. convert.arguments_converted kinds others vs (λ us. k (u ∷ us))) (e.0) (λ u i. all_made kinds others vs (λ us. k (u ∷ us)) (e.1) (λ us j. h (u ∷ us) (i, j)))

  first : (args : List Value) → AllFree f args → Free (argument args 0)
  first [] e = refl
  first (v ∷ vs) e = e.0

  second : (args : List Value) → AllFree f args → Free (argument args 1)
  second [] e = refl
  second (v ∷ []) e = refl
  second (v ∷ (w ∷ vs)) e = e.1.0

  -- ---- objects

  abbrev Row : (Value → List Value → Asks Answer) → Type 0
  Row row = (this : Value) (args : List Value) → Free this → AllFree f args → Avoids f (row this args Done)

  object_of : (v : Value) → Free v → Avoids f (objects.object_of v Done)
  object_of value.Undefined e = λ o i. i
  object_of value.Null e = λ o i. i
  object_of (value.Bool b) e = tt
  object_of (value.Num n) e = tt
  object_of (value.Str s) e = tt
  object_of (value.Object o) e = e

  object : Row objects.object
  object this args e h = object_of (argument args 0) (first args h)

  object_to_string : Row objects.object_to_string
  object_to_string this args e h = an_object this _ e (λ o i c. refl)

  object_value_of : Row objects.object_value_of
  object_value_of this args e h = an_object this _ e (λ o i. i)

  unreserved : (name : Name) (k : Name → Program) → ((s : Name) → Avoids f (k s)) → Avoids f (objects.unreserved name k)
  unreserved name k h = chosen _ (asks.stop _) (asks.pure name) k tt (h name)

  has_own : Row objects.has_own_property
  has_own this args e h = an_object this _ e (λ o i. unreserved (convert.text_at args 0) _ (λ s a. refl))

  enumerable : Row objects.property_is_enumerable
  enumerable this args e h = an_object this _ e (λ o i. unreserved (convert.text_at args 0) _ (λ s a. refl))

  prototype_of : (o : ℕ) (v : Value) → Avoids f (objects.is_prototype_of_value o v Done)
  prototype_of o value.Undefined = refl
  prototype_of o value.Null = refl
  prototype_of o (value.Bool b) = refl
  prototype_of o (value.Num n) = refl
  prototype_of o (value.Str s) = refl
  prototype_of o (value.Object v) = λ b. refl

  is_prototype_of : Row objects.is_prototype_of
  is_prototype_of this args e h = an_object this _ e (λ o i. prototype_of o (argument args 0))

  text_of_class : (c : Class) → Avoids f (objects.text_of_class c Done)
  text_of_class class.Plain = tt
  text_of_class class.Function = tt
  text_of_class class.Array = tt
  text_of_class class.Arguments = tt
  text_of_class class.Error = tt
  text_of_class class.Math = tt

  function_to_string : Row objects.function_to_string
  function_to_string this args e h = an_object this _ e (λ o i c. text_of_class c)

  -- ---- arrays

  with_elements : (vs : List Value) (made n : ℕ) (p : Program) → AllFree f vs → Avoids f p → Avoids f (arrays.with_elements vs made n p)
  with_elements [] made n p e h = h
  with_elements (v ∷ vs) made n p e h = (e.0, with_elements vs made (suc n) p (e.1) h)

  array_of : (vs : List Value) → AllFree f vs → Avoids f (arrays.array_of vs Done)
  array_of vs e = λ o i. with_elements vs o 0 (asks.object_answer o Done) e i

  array_of_length : (n : Num) → Avoids f (arrays.array_of_length n Done)
  array_of_length n = chosen _ (arrays.array_of_size (uint32_of n)) (asks.throw _) Done (λ o i. (refl, i)) tt

  array_of_one : (v : Value) → Free v → Avoids f (arrays.array_of_one v Done)
  array_of_one value.Undefined e = array_of (value.Undefined ∷ []) (e, tt)
  array_of_one value.Null e = array_of (value.Null ∷ []) (e, tt)
  array_of_one (value.Bool b) e = array_of (value.Bool b ∷ []) (e, tt)
  array_of_one (value.Num n) e = array_of_length n
  array_of_one (value.Str s) e = array_of (value.Str s ∷ []) (e, tt)
  array_of_one (value.Object o) e = array_of (value.Object o ∷ []) (e, tt)

  array : Row arrays.array
  array this [] e h = array_of [] tt
  array this (v ∷ []) e h = array_of_one v (h.0)
  array this (v ∷ (w ∷ vs)) e h = array_of (v ∷ (w ∷ vs)) h

  copied : (b : Bool) (from k made n : ℕ) (p : Program) → Avoids f p → Avoids f (arrays.copied b from k made n p)
  copied true from k made n p h = λ v e. (e, h)
  copied false from k made n p h = h

  elements : (ks : List ℕ) (from made n : ℕ) (k : ℕ → Program) → ((m : ℕ) → Avoids f (k m)) → Avoids f (arrays.elements ks from made n k)
  elements [] from made n k h = h n
  elements (x ∷ ks) from made n k h = λ a. copied (is_some a) from x made n (arrays.elements ks from made (suc n) k) (elements ks from made (suc n) k h)

  alone : (v : Value) (made n : ℕ) (k : ℕ → Program) → Free v → ((m : ℕ) → Avoids f (k m)) → Avoids f (arrays.alone v made n k)
  alone v made n k e h = (e, h (suc n))

  by_class : (c : Class) (m n : Asks ℕ) (k : ℕ → Program) → Avoids f (m k) → Avoids f (n k) → Avoids f (arrays.by_class c m n k)
  by_class class.Array m n k h i = h
  by_class class.Plain m n k h i = i
  by_class class.Function m n k h i = i
  by_class class.Arguments m n k h i = i
  by_class class.Error m n k h i = i
  by_class class.Math m n k h i = i

  item : (v : Value) (made n : ℕ) (k : ℕ → Program) → Free v → ((m : ℕ) → Avoids f (k m)) → Avoids f (arrays.item v made n k)
  item value.Undefined made n k e h = alone value.Undefined made n k e h
  item value.Null made n k e h = alone value.Null made n k e h
  item (value.Bool b) made n k e h = alone (value.Bool b) made n k e h
  item (value.Num a) made n k e h = alone (value.Num a) made n k e h
  item (value.Str s) made n k e h = alone (value.Str s) made n k e h
  item (value.Object o) made n k e h = λ c. by_class c (arrays.spread made n (o.0)) (arrays.alone (value.Object o) made n) k (λ v i. elements _ (o.0) made n k h) (alone (value.Object o) made n k e h)

  items : (vs : List Value) (made n : ℕ) (k : ℕ → Program) → AllFree f vs → ((m : ℕ) → Avoids f (k m)) → Avoids f (arrays.items vs made n k)
  items [] made n k e h = h n
  items (v ∷ vs) made n k e h = item v made n (λ m. arrays.items vs made m k) (e.0) (λ m. items vs made m k (e.1) h)

  concat : Row arrays.concat
  concat this args e h = an_object this _ e (λ o i made j. items (asks.the_object o ∷ args) made 0 _ (i, h) (λ n. (refl, j)))

  separator : (v : Value) (k : Name → Program) → Free v → ((s : Name) → Avoids f (k s)) → Avoids f (arrays.separator v k)
  separator value.Undefined k e h = h _
  separator value.Null k e h = (e, h)
  separator (value.Bool b) k e h = (e, h)
  separator (value.Num n) k e h = (e, h)
  separator (value.Str s) k e h = (e, h)
  separator (value.Object o) k e h = (e, h)

  piece : (v : Value) (k : Name → Program) → Free v → ((s : Name) → Avoids f (k s)) → Avoids f (arrays.piece v k)
  piece value.Undefined k e h = h []
  piece value.Null k e h = h []
  piece (value.Bool b) k e h = (e, h)
  piece (value.Num n) k e h = (e, h)
  piece (value.Str s) k e h = (e, h)
  piece (value.Object o) k e h = (e, h)

  pieces : (ks : List ℕ) (o : ℕ) (between r : Name) (k : Name → Program) → ((s : Name) → Avoids f (k s)) → Avoids f (arrays.pieces ks o between r k)
  pieces [] o between r k h = h r
  pieces (x ∷ ks) o between r k h = made (r ++ between) _ (λ s v e. piece v _ e (λ next. made (s ++ next) _ (λ r. pieces ks o between r k h)))

  joined : (o n : ℕ) (between : Name) (k : Name → Program) → ((s : Name) → Avoids f (k s)) → Avoids f (arrays.joined o n between k)
  joined o zero between k h = h []
  joined o (suc n) between k h = λ v e. piece v _ e (λ r. pieces _ o between r k h)

  join_of : (o : ℕ) (v : Value) → Free v → Avoids f (arrays.join_of o v Done)
  join_of o v e = λ w i. (i, λ n. separator v (λ between. arrays.joined o (uint32_of n) between (λ r. asks.text_answer r Done)) e (λ between. joined o (uint32_of n) between (λ r. asks.text_answer r Done) (λ r. refl)))

  join : Row arrays.join
  join this args e h = an_object this _ e (λ o i. join_of o (argument args 0) (first args h))

  join_by_class : (c : Class) (o : ℕ) → Avoids f (arrays.join_by_class c o Done)
  join_by_class class.Plain o = tt
  join_by_class class.Function o = tt
  join_by_class class.Array o = join_of o value.Undefined refl
  join_by_class class.Arguments o = tt
  join_by_class class.Error o = tt
  join_by_class class.Math o = tt

  array_to_string : Row arrays.array_to_string
  array_to_string this args e h = an_object this _ e (λ o i c. join_by_class c o)

  popped : (o n : ℕ) → Avoids f (arrays.popped o n Done)
  popped o zero = (refl, refl)
  popped o (suc n) = λ v e. (refl, e)

  pop : Row arrays.pop
  pop this args e h = an_object this _ e (λ o i v j. (j, λ n. popped o (uint32_of n)))

  pushed : (vs : List Value) (o n : ℕ) → AllFree f vs → Avoids f (arrays.pushed vs o n Done)
  pushed [] o n e = (refl, refl)
  pushed (v ∷ vs) o n e = (e.0, pushed vs o (suc n) (e.1))

  push : Row arrays.push
  push this args e h = an_object this _ e (λ o i v j. (j, λ n. pushed args o (uint32_of n) h))

  -- ---- elements that move

  moved_one : (b : Bool) (o source target : ℕ) (p : Program) → Avoids f p → Avoids f (moves.moved_one b o source target p)
  moved_one true o source target p h = λ v e. (e, h)
  moved_one false o source target p h = h

  moved : (ks : List ℕ) (o a b : ℕ) (p : Program) → Avoids f p → Avoids f (moves.moved ks o a b p)
  moved [] o a b p h = h
  moved (x ∷ ks) o a b p h = λ c. moved_one (is_some c) o (x + a) (x + b) (moves.moved ks o a b p) (moved ks o a b p h)

  exchanged : (a b : Bool) (o lower upper : ℕ) (l u : Value) (p : Program) → Free l → Free u → Avoids f p → Avoids f (moves.exchanged a b o lower upper l u p)
  exchanged true true o lower upper l u p e i h = (i, (e, h))
  exchanged false true o lower upper l u p e i h = (i, h)
  exchanged true false o lower upper l u p e i h = (e, h)
  exchanged false false o lower upper l u p e i h = h

  reversed : (ks : List ℕ) (o n : ℕ) → (o == f) ≡ false → Avoids f (moves.reversed ks o n Done)
  reversed [] o n e = e
  reversed (x ∷ ks) o n e = λ l i u j b c. exchanged (is_some c) (is_some b) o x (n - x - 1) l u (moves.reversed ks o n Done) i j (reversed ks o n e)

  reverse : Row moves.reverse
  reverse this args e h = an_object this _ e (λ o i v j. (j, λ n. reversed (indices 0 (uint32_of n / 2)) o (uint32_of n) i))

  shifted : (o n : ℕ) → Avoids f (moves.shifted o n Done)
  shifted o zero = (refl, refl)
  shifted o (suc n) = λ v e. moved (indices 0 n) o 1 0 (asks.delete o (decimal n) (arrays.put_length o n (asks.value_answer v Done))) (refl, e)

  shift : Row moves.shift
  shift this args e h = an_object this _ e (λ o i v j. (j, λ n. shifted o (uint32_of n)))

  converted_end : (v : Value) (n : ℕ) (k : ℕ → Program) → Free v → ((m : ℕ) → Avoids f (k m)) → Avoids f (moves.converted_end v n k)
  converted_end v n k e h = (e, λ a. h (convert.from_either_end (convert.integer_of a) n))

  end_of : (v : Value) (n : ℕ) (k : ℕ → Program) → Free v → ((m : ℕ) → Avoids f (k m)) → Avoids f (moves.end_of v n k)
  end_of value.Undefined n k e h = h n
  end_of value.Null n k e h = converted_end value.Null n k e h
  end_of (value.Bool b) n k e h = converted_end (value.Bool b) n k e h
  end_of (value.Num a) n k e h = converted_end (value.Num a) n k e h
  end_of (value.Str s) n k e h = converted_end (value.Str s) n k e h
  end_of (value.Object o) n k e h = converted_end (value.Object o) n k e h

  copies : (ks : List ℕ) (o start made : ℕ) (p : Program) → Avoids f p → Avoids f (moves.copies ks o start made p)
  copies [] o start made p h = h
  copies (x ∷ ks) o start made p h = λ a. copied (is_some a) o (x + start) made x (moves.copies ks o start made p) (copies ks o start made p h)

  copied_part : (o made start end : ℕ) → (made == f) ≡ false → Avoids f (moves.copied_part o made start end Done)
  copied_part o made start end e = copies (indices 0 (end - start)) o start made (arrays.with_length made (end - start) Done) (refl, e)

  sliced : (o made : ℕ) (from to : Value) → (made == f) ≡ false → Free from → Free to → Avoids f (moves.sliced o made from to Done)
  sliced o made from to e i j = λ v l. (l, λ n. (i, λ start. end_of to (uint32_of n) (λ end. moves.copied_part o made (convert.from_either_end (convert.integer_of start) (uint32_of n)) end Done) j (λ end. copied_part o made (convert.from_either_end (convert.integer_of start) (uint32_of n)) end e)))

  slice : Row moves.slice
  slice this args e h = an_object this _ e (λ o i made j. sliced o made (argument args 0) (argument args 1) j (first args h) (second args h))

  put_elements : (vs : List Value) (o k : ℕ) (p : Program) → AllFree f vs → Avoids f p → Avoids f (moves.put_elements vs o k p)
  put_elements [] o k p e h = h
  put_elements (v ∷ vs) o k p e h = (e.0, put_elements vs o (suc k) p (e.1) h)

  deletes : (ks : List ℕ) (o : ℕ) (p : Program) → Avoids f p → Avoids f (moves.deletes ks o p)
  deletes [] o p h = h
  deletes (x ∷ ks) o p h = deletes ks o p h

  closed_up : (o n start gone come : ℕ) (p : Program) → Avoids f p → Avoids f (moves.closed_or_opened o n start gone come p)
  closed_up o n start gone come p h = either (nat_lt come gone) _ _ (moved (indices start (n - gone - start)) o gone come (moves.deletes (downward (n - gone + come) (gone - come)) o p) (deletes (downward (n - gone + come) (gone - come)) o p h)) (either (nat_lt gone come) _ _ (moved (downward start (n - gone - start)) o gone come p h) h)

  spliced : (o made n start gone : ℕ) (items : List Value) → (made == f) ≡ false → AllFree f items → Avoids f (moves.spliced o made n start gone items Done)
  spliced o made n start gone items e h =
      let last : Program = arrays.put_length o (n - gone + convert.count_of items) (asks.object_answer made Done) in
      let put : Program = moves.put_elements items o start last in
      let closed : Program = moves.closed_or_opened o n start gone (convert.count_of items) put in
      copies (indices 0 gone) o start made (asks.write made length_name (whole gone) closed) (refl, closed_up o n start gone (convert.count_of items) put (put_elements items o start last h (refl, e)))

  behind_two : (args : List Value) → AllFree f args → AllFree f (drop 2 args)
  behind_two [] h = tt
  behind_two (v ∷ []) h = tt
  behind_two (v ∷ (w ∷ vs)) h = h.1.1

  splice : Row moves.splice
  splice this args e h = an_object this _ e (λ o i made j v l. (l, λ n. (first args h, λ start. (second args h, λ count. spliced o made (uint32_of n) (convert.from_either_end (convert.integer_of start) (uint32_of n)) (min (moves.at_least_zero (convert.integer_of count)) (uint32_of n - convert.from_either_end (convert.integer_of start) (uint32_of n))) (drop 2 args) j (behind_two args h)))))

  unshifted : (o n : ℕ) (items : List Value) → AllFree f items → Avoids f (moves.unshifted o n items Done)
  unshifted o n items h =
      let last : Program = arrays.put_length o (n + convert.count_of items) (asks.whole_answer (n + convert.count_of items) Done) in
      moved (downward 0 n) o 0 (convert.count_of items) (moves.put_elements items o 0 last) (put_elements items o 0 last h (refl, refl))

  unshift : Row moves.unshift
  unshift this args e h = an_object this _ e (λ o i v j. (j, λ n. unshifted o (uint32_of n) args h))

  -- ---- texts

  string : Row strings.string
  string this [] e h = refl
  string this (v ∷ vs) e h = refl

  from_char_code : Row strings.from_char_code
  from_char_code this args e h = text_ended (map (λ v. convert.uint16_of (convert.number_in v)) args)

  string_value : Row strings.string_value
  string_value this args e h = a_text this _ (λ s. refl)

  string_concat : Row strings.string_concat
  string_concat this args e h = text_ended (convert.text_in this ++ flat_map convert.text_in args)

  of_texts : (ss : List Name) → AllFree f (map value.Str ss)
  of_texts [] = tt
  of_texts (s ∷ ss) = (refl, of_texts ss)

  array_of_texts : (ss : List Name) → Avoids f (strings.array_of_texts ss Done)
  array_of_texts ss = λ o i. with_elements (map value.Str ss) o 0 _ (of_texts ss) i

  split : Row strings.split
  split this args e h = (a_value this e, λ s. one_made convert.ToNumberIfAny (argument args 1) _ (second args h) (λ u i. one_made convert.ToTextIfAny (argument args 0) _ (first args h) (λ w j. array_of_texts _)))

  -- ---- numbers and booleans

  number_function : Row numbers.number_function
  number_function this [] e h = refl
  number_function this (v ∷ vs) e h = refl

  text_in_radix : (radix : ℤ) (n : Num) → Avoids f (numbers.text_in_radix radix n Done)
  text_in_radix (pos radix) n = chosen _ (asks.text_answer _) (asks.throw _) Done refl tt
  text_in_radix (negsuc radix) n = tt

  number_to_string : Row numbers.number_to_string
  number_to_string this args e h = a_number this _ (text_in_radix (numbers.radix_of (argument args 0)))

  number_value_of : Row numbers.number_value_of
  number_value_of this args e h = a_number this _ (λ n. refl)

  boolean_to_string : Row numbers.boolean_to_string
  boolean_to_string this args e h = a_truth this _ (λ b. refl)

  boolean_value_of : Row numbers.boolean_value_of
  boolean_value_of this args e h = a_truth this _ (λ b. refl)

  of_all : (choose : Num → Num → Num) (args : List Value) → Avoids f (math.chosen_of choose args Done)
  of_all choose [] = tt
  of_all choose (v ∷ vs) = refl

  -- ---- errors, the global object and `host`

  with_message : (v : Value) (made : ℕ) (p : Program) → Avoids f p → Avoids f (errors.with_message v made p)
  with_message value.Undefined made p h = h
  with_message value.Null made p h = h
  with_message (value.Bool b) made p h = h
  with_message (value.Num n) made p h = h
  with_message (value.Str s) made p h = (refl, h)
  with_message (value.Object o) made p h = h

  error : (b : BuiltIn) → Row (errors.error b)
  error b this args e h = λ o i. with_message (argument args 0) o _ i

  described : (name message : Name) (k : Name → Program) → ((s : Name) → Avoids f (k s)) → Avoids f (errors.described name message k)
  described name [] k h = h name
  described name (u ∷ us) k h = made _ k h

  error_to_string : Row errors.error_to_string
  error_to_string this args e h = an_object this _ e (λ o i v j. (j, λ name w l. (l, λ message. described name message _ (λ s. refl))))

  number_or_stop : (r : Result Num Reason) → Avoids f (globals.number_or_stop r Done)
  number_or_stop (Ok n) = refl
  number_or_stop (Err reason) = tt

  of_digits : (b : Bool) (radix : ℕ) (s : Name) → Avoids f (globals.number_of_digits b radix s Done)
  of_digits b radix [] = refl
  of_digits b radix (c ∷ cs) = number_or_stop _

  hexadecimal : (b : Bool) (radix : ℕ) (s : Name) → Avoids f (globals.perhaps_hexadecimal b radix s Done)
  hexadecimal b radix s = chosen (globals.has_prefix s) _ _ Done (of_digits b 16 _) (of_digits b radix _)

  by_radix : (b : Bool) (radix : ℤ) (s : Name) → Avoids f (globals.by_radix b radix s Done)
  by_radix b (negsuc radix) s = refl
  by_radix b (pos radix) s = chosen (radix == 0) _ _ Done (hexadecimal b 10 s) (chosen (radix == 16) _ _ Done (hexadecimal b 16 s) (chosen (nat_le 2 radix && nat_le radix 36) (globals.number_of_digits b radix (globals.digits_in radix s)) (asks.number_answer number.NaN) Done (of_digits b radix (globals.digits_in radix s)) refl))

  parsed : (s : Name) (radix : Num) → Avoids f (globals.parsed s radix Done)
  parsed s radix = by_radix (is_negative s) (int32_of radix) (without_sign s)

  parse_int : Row globals.parse_int
  parse_int this args e h = parsed (behind is_blank (convert.text_at args 0)) (convert.number_at args 1)

  listening : (c : Class) (event : Name) (o : ℕ) → (o == f) ≡ false → Avoids f (globals.listening c event o Done)
  listening class.Plain event o e = tt
  listening class.Function event o e = (e, refl)
  listening class.Array event o e = tt
  listening class.Arguments event o e = tt
  listening class.Error event o e = tt
  listening class.Math event o e = tt

  listening_by : (v : Value) (event : Name) → Free v → Avoids f (globals.listening_by v event Done)
  listening_by value.Undefined event e = tt
  listening_by value.Null event e = tt
  listening_by (value.Bool b) event e = tt
  listening_by (value.Num n) event e = tt
  listening_by (value.Str s) event e = tt
  listening_by (value.Object o) event e = λ c. listening c event (o.0) e

  on : Row globals.on
  on this args e h = listening_by (argument args 1) _ (second args h)

  -- ---- all

  abbrev PlanAvoids : Plan → Type 0
  PlanAvoids (Converts takes row) = Row row
  PlanAvoids (Goes program) = Row program
  PlanAvoids Enters = Unit {0}

  plan_avoids : (n : Native) → PlanAvoids (plan_of n)
  plan_avoids native.Object = object
  plan_avoids native.Array = array
  plan_avoids native.String = string
  plan_avoids native.NewString = λ this args e h. tt
  plan_avoids native.Number = number_function
  plan_avoids native.NewNumber = λ this args e h. tt
  plan_avoids native.Boolean = λ this args e h. refl
  plan_avoids native.NewBoolean = λ this args e h. tt
  plan_avoids native.Error = error built.ErrorPrototype
  plan_avoids native.TypeError = error built.TypeErrorPrototype
  plan_avoids native.ReferenceError = error built.ReferenceErrorPrototype
  plan_avoids native.RangeError = error built.RangeErrorPrototype
  plan_avoids native.ParseInt = parse_int
  plan_avoids native.IsNan = λ this args e h. refl
  plan_avoids native.ObjectToString = object_to_string
  plan_avoids native.ObjectValueOf = object_value_of
  plan_avoids native.HasOwnProperty = has_own
  plan_avoids native.IsPrototypeOf = is_prototype_of
  plan_avoids native.PropertyIsEnumerable = enumerable
  plan_avoids native.FunctionToString = function_to_string
  plan_avoids native.Apply = tt
  plan_avoids native.Call = tt
  plan_avoids native.ArrayToString = array_to_string
  plan_avoids native.ArrayConcat = concat
  plan_avoids native.Join = join
  plan_avoids native.Pop = pop
  plan_avoids native.Push = push
  plan_avoids native.Reverse = reverse
  plan_avoids native.Shift = shift
  plan_avoids native.ArraySlice = slice
  plan_avoids native.Splice = splice
  plan_avoids native.Unshift = unshift
  plan_avoids native.FromCharCode = from_char_code
  plan_avoids native.StringToString = string_value
  plan_avoids native.StringValueOf = string_value
  plan_avoids native.CharAt = λ this args e h. refl
  plan_avoids native.CharCodeAt = λ this args e h. refl
  plan_avoids native.StringConcat = string_concat
  plan_avoids native.IndexOf = λ this args e h. refl
  plan_avoids native.LastIndexOf = λ this args e h. refl
  plan_avoids native.StringSlice = λ this args e h. refl
  plan_avoids native.Split = split
  plan_avoids native.Substring = λ this args e h. refl
  plan_avoids native.NumberToString = number_to_string
  plan_avoids native.NumberValueOf = number_value_of
  plan_avoids native.BooleanToString = boolean_to_string
  plan_avoids native.BooleanValueOf = boolean_value_of
  plan_avoids native.ErrorToString = error_to_string
  plan_avoids native.Abs = λ this args e h. refl
  plan_avoids native.Max = λ this args e h. of_all math.greater_of args
  plan_avoids native.Min = λ this args e h. of_all math.less_of args
  plan_avoids native.Floor = λ this args e h. refl
  plan_avoids native.Ceil = λ this args e h. refl
  plan_avoids native.Round = λ this args e h. refl
  plan_avoids native.On = on

  planned_avoids : (p : Plan) (this : Value) (args : List Value) → PlanAvoids p → Free this → AllFree f args → Avoids f (asks.ended (planned p this args))
  planned_avoids (Converts takes row) this args i e h = this_made (takes.this) this _ e (λ u j. all_made (takes.arguments) (takes.others) args _ h (λ us k. i u us j k))
  planned_avoids (Goes program) this args i e h = i this args e h
  planned_avoids Enters this args i e h = refl

pub natives_avoid : NativesAvoid
natives_avoid f n this args g e h = planned_avoids f g (plan_of n) this args (plan_avoids f g n) e h
