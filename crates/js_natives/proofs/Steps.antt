-- How many steps natives take.
use Rattle.std.proofs.Common.{◌≡◌, ℕ, zero, suc, ◌+◌, ◌-◌, ◌≤◌, Bool, true, false, List, [], ◌∷◌, subst, arith}
use Rattle.std.specs.Prelude.{◌==◌, ◌++◌, ◌/◌, ◌&&◌, map, is_some, if◌then◌else◌, take, length, ℤ, pos, negsuc, Result, Ok, Err, nat_lt, nat_le}
use Rattle.std.specs.List.{flat_map}
use Rattle.js_values.specs.declared.number.Num.{Num}
use Rattle.js_values.specs.declared.number.Num.TheVariants as number
use Rattle.js_values.specs.declared.reason.Reason.{Reason}
use Rattle.js_values.specs.declared.value.Value.{Value}
use Rattle.js_values.specs.declared.value.Value.TheVariants as value
use Rattle.js_values.specs.Integers.{uint32_of, int32_of}
use Rattle.js_values.specs.NumberTexts.{behind, is_blank, is_negative, without_sign}
use Rattle.object_heap.specs.declared.built_in.BuiltIn.{BuiltIn}
use Rattle.object_heap.specs.declared.built_in.BuiltIn.TheVariants as built
use Rattle.object_heap.specs.declared.object.Class.{Class}
use Rattle.object_heap.specs.declared.object.Class.TheVariants as class
use Rattle.object_heap.specs.Arrays.{whole}
use Rattle.object_heap.specs.Names.{Name, decimal, length_name}
use Rattle.js_natives.specs.declared.answer.Answer.{Answer}
use Rattle.js_natives.specs.declared.native.Native.{Native}
use Rattle.js_natives.specs.declared.native.Native.TheVariants as native
use Rattle.js_natives.specs.Program.{Program, Done, Step, Text, Number, Get, Put, Listen, Make, ClassOf, Own, Behind, Write, Delete}
use Rattle.js_natives.specs.Asks as asks
use Rattle.js_natives.specs.Asks.{Asks}
use Rattle.js_natives.specs.This as this
use Rattle.js_natives.specs.Convert as convert
use Rattle.js_natives.specs.Convert.{This, Kind, Takes, argument}
use Rattle.js_natives.specs.Objects as objects
use Rattle.js_natives.specs.Arrays as arrays
use Rattle.js_natives.specs.Moves as moves
use Rattle.js_natives.specs.Strings as strings
use Rattle.js_natives.specs.Numbers as numbers
use Rattle.js_natives.specs.MathNatives as math
use Rattle.js_natives.specs.Errors as errors
use Rattle.js_natives.specs.Globals as globals
use Rattle.js_natives.specs.Indices.{indices, downward}
use Rattle.js_natives.specs.Natives.{Plan, Converts, Goes, Enters, plan_of, planned}
use Rattle.js_natives.specs.Laws.{StepsAtMost, StepsAreOfIndices, loops_over_indices}

-- ---- counts

-- so many more as there are indices
abbrev more : List ℕ → ℕ → ℕ
more [] n = n
more (k ∷ ks) n = suc (more ks n)

more_indices : (first count n : ℕ) → more (indices first count) n ≡ count + n
more_indices first zero n = omega arith
more_indices first (suc count) n = let e = more_indices (suc first) count n in omega (arith, e)

more_downward : (first count n : ℕ) → more (downward first count) n ≡ count + n
more_downward first zero n = omega arith
more_downward first (suc count) n = let e = more_downward first count n in omega (arith, e)

at : (p : Program) (n m : ℕ) → n ≡ m → StepsAtMost p n → StepsAtMost p m
at p n m e h = subst (λ n. StepsAtMost p n) e h

-- more may be taken
rising : (p : Program) (n m : ℕ) → n ≤ m → StepsAtMost p n → StepsAtMost p m
rising (Done answer) n m le h = tt
rising (Step p) zero m le h = absurd h
rising (Step p) (suc n) zero le h = absurd (omega (arith, le))
rising (Step p) (suc n) (suc m) le h = rising p n m (omega (arith, le)) h
rising (Text v k) n m le h = λ s. rising (k s) n m le (h s)
rising (Number v k) n m le h = λ a. rising (k a) n m le (h a)
rising (Get o name k) n m le h = λ v. rising (k v) n m le (h v)
rising (Put o name v p) n m le h = rising p n m le h
rising (Listen event g p) n m le h = rising p n m le h
rising (Make class prototype k) n m le h = λ o. rising (k o) n m le (h o)
rising (ClassOf o k) n m le h = λ c. rising (k c) n m le (h c)
rising (Own o name k) n m le h = λ a. rising (k a) n m le (h a)
rising (Behind o target k) n m le h = λ b. rising (k b) n m le (h b)
rising (Write o name v p) n m le h = rising p n m le h
rising (Delete o name p) n m le h = rising p n m le h

-- ---- choices, texts, `this` and arguments

chosen : {A : Type 0} (n : ℕ) (b : Bool) (l r : Asks A) (k : A → Program) → StepsAtMost (l k) n → StepsAtMost (r k) n → StepsAtMost ((if b then l else r) k) n
chosen n true l r k h i = h
chosen n false l r k h i = i

made : (n : ℕ) (s : Name) (k : Name → Program) → ((s : Name) → StepsAtMost (k s) n) → StepsAtMost (asks.made_text s k) n
made n s k h = chosen n (nat_le (length s) asks.longest_text) (asks.pure s) (asks.stop _) k (h s) tt

text_ended : (s : Name) → StepsAtMost (asks.made_text s (λ s. asks.text_answer s Done)) 0
text_ended s = made 0 s (λ s. asks.text_answer s Done) (λ s. tt)

an_object : (v : Value) (k : ℕ → Program) → ((o : ℕ) → StepsAtMost (k o) 0) → StepsAtMost (this.this_object v k) 0
an_object value.Undefined k h = h this.global
an_object value.Null k h = h this.global
an_object (value.Bool b) k h = tt
an_object (value.Num n) k h = tt
an_object (value.Str s) k h = tt
an_object (value.Object o) k h = h (o.0)

a_truth : (v : Value) (k : Bool → Program) → ((b : Bool) → StepsAtMost (k b) 0) → StepsAtMost (this.this_truth v k) 0
a_truth value.Undefined k h = tt
a_truth value.Null k h = tt
a_truth (value.Bool b) k h = h b
a_truth (value.Num n) k h = tt
a_truth (value.Str s) k h = tt
a_truth (value.Object o) k h = tt

a_number : (v : Value) (k : Num → Program) → ((n : Num) → StepsAtMost (k n) 0) → StepsAtMost (this.this_number v k) 0
a_number value.Undefined k h = tt
a_number value.Null k h = tt
a_number (value.Bool b) k h = tt
a_number (value.Num n) k h = h n
a_number (value.Str s) k h = tt
a_number (value.Object o) k h = tt

a_text : (v : Value) (k : Name → Program) → ((s : Name) → StepsAtMost (k s) 0) → StepsAtMost (this.this_text v k) 0
a_text value.Undefined k h = tt
a_text value.Null k h = tt
a_text (value.Bool b) k h = tt
a_text (value.Num n) k h = tt
a_text (value.Str s) k h = h s
a_text (value.Object o) k h = tt

this_made : (t : This) (v : Value) (k : Value → Program) → ((u : Value) → StepsAtMost (k u) 0) → StepsAtMost (convert.this_converted t v k) 0
this_made convert.Unseen v k h = h v
this_made convert.AnObject v k h = an_object v (λ o. k (asks.the_object o)) (λ o. h (asks.the_object o))
this_made convert.ATruth v k h = a_truth v (λ b. k (value.Bool b)) (λ b. h (value.Bool b))
this_made convert.ANumber v k h = a_number v (λ n. k (value.Num n)) (λ n. h (value.Num n))
this_made convert.AText v k h = a_text v (λ s. k (value.Str s)) (λ s. h (value.Str s))
this_made convert.MadeText v k h = λ s. h (value.Str s)

if_any : (m : Value → Asks Value) → ((v : Value) (k : Value → Program) → ((u : Value) → StepsAtMost (k u) 0) → StepsAtMost (m v k) 0) → (v : Value) (k : Value → Program) → ((u : Value) → StepsAtMost (k u) 0) → StepsAtMost (convert.if_any m v k) 0
if_any m i value.Undefined k h = h value.Undefined
if_any m i value.Null k h = i value.Null k h
if_any m i (value.Bool b) k h = i (value.Bool b) k h
if_any m i (value.Num n) k h = i (value.Num n) k h
if_any m i (value.Str s) k h = i (value.Str s) k h
if_any m i (value.Object o) k h = i (value.Object o) k h

text_made : (v : Value) (k : Value → Program) → ((u : Value) → StepsAtMost (k u) 0) → StepsAtMost (convert.made_text_of v k) 0
text_made v k h = λ s. h (value.Str s)

number_made : (v : Value) (k : Value → Program) → ((u : Value) → StepsAtMost (k u) 0) → StepsAtMost (convert.made_number_of v k) 0
number_made v k h = λ n. h (value.Num n)

one_made : (kind : Kind) (v : Value) (k : Value → Program) → ((u : Value) → StepsAtMost (k u) 0) → StepsAtMost (convert.argument_converted kind v k) 0
one_made convert.Kept v k h = h v
one_made convert.ToText v k h = text_made v k h
one_made convert.ToNumber v k h = number_made v k h
one_made convert.ToTextIfAny v k h = if_any convert.made_text_of text_made v k h
one_made convert.ToNumberIfAny v k h = if_any convert.made_number_of number_made v k h

all_made : (kinds : List Kind) (others : Kind) (vs : List Value) (k : List Value → Program) → ((us : List Value) → StepsAtMost (k us) 0) → StepsAtMost (convert.arguments_converted kinds others vs k) 0
all_made kinds others [] k h = h []
all_made [] others (v ∷ vs) k h = one_made others v (λ u. convert.arguments_converted [] others vs (λ us. k (u ∷ us))) (λ u. all_made [] others vs (λ us. k (u ∷ us)) (λ us. h (u ∷ us)))
all_made (kind ∷ kinds) others (v ∷ vs) k h = one_made kind v (λ u. convert.arguments_converted kinds others vs (λ us. k (u ∷ us))) (λ u. all_made kinds others vs (λ us. k (u ∷ us)) (λ us. h (u ∷ us)))

-- ---- the rows of those that take none

abbrev Row : (Value → List Value → Asks Answer) → Type 0
Row row = (this : Value) (args : List Value) → StepsAtMost (row this args Done) 0

object_of : (v : Value) → StepsAtMost (objects.object_of v Done) 0
object_of value.Undefined = λ o. tt
object_of value.Null = λ o. tt
object_of (value.Bool b) = tt
object_of (value.Num n) = tt
object_of (value.Str s) = tt
object_of (value.Object o) = tt

object : Row objects.object
object this args = object_of (argument args 0)

object_to_string : Row objects.object_to_string
object_to_string this args = an_object this _ (λ o c. tt)

object_value_of : Row objects.object_value_of
object_value_of this args = an_object this _ (λ o. tt)

unreserved : (name : Name) (k : Name → Program) → ((s : Name) → StepsAtMost (k s) 0) → StepsAtMost (objects.unreserved name k) 0
unreserved name k h = chosen 0 _ (asks.stop _) (asks.pure name) k tt (h name)

has_own : Row objects.has_own_property
has_own this args = an_object this _ (λ o. unreserved (convert.text_at args 0) _ (λ s a. tt))

enumerable : Row objects.property_is_enumerable
enumerable this args = an_object this _ (λ o. unreserved (convert.text_at args 0) _ (λ s a. tt))

prototype_of : (o : ℕ) (v : Value) → StepsAtMost (objects.is_prototype_of_value o v Done) 0
prototype_of o value.Undefined = tt
prototype_of o value.Null = tt
prototype_of o (value.Bool b) = tt
prototype_of o (value.Num n) = tt
prototype_of o (value.Str s) = tt
prototype_of o (value.Object v) = λ b. tt

is_prototype_of : Row objects.is_prototype_of
is_prototype_of this args = an_object this _ (λ o. prototype_of o (argument args 0))

text_of_class : (c : Class) → StepsAtMost (objects.text_of_class c Done) 0
text_of_class class.Plain = tt
text_of_class class.Function = tt
text_of_class class.Array = tt
text_of_class class.Arguments = tt
text_of_class class.Error = tt
text_of_class class.Math = tt

function_to_string : Row objects.function_to_string
function_to_string this args = an_object this _ (λ o c. text_of_class c)

with_elements : (vs : List Value) (made n : ℕ) (p : Program) → StepsAtMost p 0 → StepsAtMost (arrays.with_elements vs made n p) 0
with_elements [] made n p h = h
with_elements (v ∷ vs) made n p h = with_elements vs made (suc n) p h

array_of : (vs : List Value) → StepsAtMost (arrays.array_of vs Done) 0
array_of vs = λ o. with_elements vs o 0 (asks.object_answer o Done) tt

array_of_length : (n : Num) → StepsAtMost (arrays.array_of_length n Done) 0
array_of_length n = chosen 0 _ (arrays.array_of_size (uint32_of n)) (asks.throw _) Done (λ o. tt) tt

array_of_one : (v : Value) → StepsAtMost (arrays.array_of_one v Done) 0
array_of_one value.Undefined = array_of (value.Undefined ∷ [])
array_of_one value.Null = array_of (value.Null ∷ [])
array_of_one (value.Bool b) = array_of (value.Bool b ∷ [])
array_of_one (value.Num n) = array_of_length n
array_of_one (value.Str s) = array_of (value.Str s ∷ [])
array_of_one (value.Object o) = array_of (value.Object o ∷ [])

array : Row arrays.array
array this [] = array_of []
array this (v ∷ []) = array_of_one v
array this (v ∷ (w ∷ vs)) = array_of (v ∷ (w ∷ vs))

popped : (o n : ℕ) → StepsAtMost (arrays.popped o n Done) 0
popped o zero = tt
popped o (suc n) = λ v. tt

pop : Row arrays.pop
pop this args = an_object this _ (λ o v n. popped o (uint32_of n))

pushed : (vs : List Value) (o n : ℕ) → StepsAtMost (arrays.pushed vs o n Done) 0
pushed [] o n = tt
pushed (v ∷ vs) o n = pushed vs o (suc n)

push : Row arrays.push
push this args = an_object this _ (λ o v n. pushed args o (uint32_of n))

string : Row strings.string
string this [] = tt
string this (v ∷ vs) = tt

from_char_code : Row strings.from_char_code
from_char_code this args = text_ended (map (λ v. convert.uint16_of (convert.number_in v)) args)

string_value : Row strings.string_value
string_value this args = a_text this _ (λ s. tt)

string_concat : Row strings.string_concat
string_concat this args = text_ended (convert.text_in this ++ flat_map convert.text_in args)

array_of_texts : (ss : List Name) → StepsAtMost (strings.array_of_texts ss Done) 0
array_of_texts ss = λ o. with_elements (map value.Str ss) o 0 _ tt

split : Row strings.split
split this args = λ s. one_made convert.ToNumberIfAny (argument args 1) _ (λ u. one_made convert.ToTextIfAny (argument args 0) _ (λ w. array_of_texts (take (strings.limit_of u) (strings.split_text s w))))

number_function : Row numbers.number_function
number_function this [] = tt
number_function this (v ∷ vs) = tt

text_in_radix : (radix : ℤ) (n : Num) → StepsAtMost (numbers.text_in_radix radix n Done) 0
text_in_radix (pos radix) n = chosen 0 _ (asks.text_answer _) (asks.throw _) Done tt tt
text_in_radix (negsuc radix) n = tt

number_to_string : Row numbers.number_to_string
number_to_string this args = a_number this _ (text_in_radix (numbers.radix_of (argument args 0)))

number_value_of : Row numbers.number_value_of
number_value_of this args = a_number this _ (λ n. tt)

boolean_to_string : Row numbers.boolean_to_string
boolean_to_string this args = a_truth this _ (λ b. tt)

boolean_value_of : Row numbers.boolean_value_of
boolean_value_of this args = a_truth this _ (λ b. tt)

of_all : (choose : Num → Num → Num) (args : List Value) → StepsAtMost (math.chosen_of choose args Done) 0
of_all choose [] = tt
of_all choose (v ∷ vs) = tt

with_message : (v : Value) (made : ℕ) (p : Program) → StepsAtMost p 0 → StepsAtMost (errors.with_message v made p) 0
with_message value.Undefined made p h = h
with_message value.Null made p h = h
with_message (value.Bool b) made p h = h
with_message (value.Num n) made p h = h
with_message (value.Str s) made p h = h
with_message (value.Object o) made p h = h

error : (b : BuiltIn) → Row (errors.error b)
error b this args = λ o. with_message (argument args 0) o _ tt

described : (name message : Name) → StepsAtMost (errors.described name message (λ s. asks.text_answer s Done)) 0
described name [] = tt
described name (u ∷ us) = text_ended _

error_to_string : Row errors.error_to_string
error_to_string this args = an_object this _ (λ o v name w message. described name message)

number_or_stop : (r : Result Num Reason) → StepsAtMost (globals.number_or_stop r Done) 0
number_or_stop (Ok n) = tt
number_or_stop (Err reason) = tt

of_digits : (b : Bool) (radix : ℕ) (s : Name) → StepsAtMost (globals.number_of_digits b radix s Done) 0
of_digits b radix [] = tt
of_digits b radix (c ∷ cs) = number_or_stop _

hexadecimal : (b : Bool) (radix : ℕ) (s : Name) → StepsAtMost (globals.perhaps_hexadecimal b radix s Done) 0
hexadecimal b radix s = chosen 0 (globals.has_prefix s) _ _ Done (of_digits b 16 _) (of_digits b radix _)

by_radix : (b : Bool) (radix : ℤ) (s : Name) → StepsAtMost (globals.by_radix b radix s Done) 0
by_radix b (negsuc radix) s = tt
by_radix b (pos radix) s = chosen 0 (radix == 0) _ _ Done (hexadecimal b 10 s) (chosen 0 (radix == 16) _ _ Done (hexadecimal b 16 s) (chosen 0 (nat_le 2 radix && nat_le radix 36) (globals.number_of_digits b radix (globals.digits_in radix s)) (asks.number_answer number.NaN) Done (of_digits b radix (globals.digits_in radix s)) tt))

parsed : (s : Name) (radix : Num) → StepsAtMost (globals.parsed s radix Done) 0
parsed s radix = by_radix (is_negative s) (int32_of radix) (without_sign s)

parse_int : Row globals.parse_int
parse_int this args = parsed (behind is_blank (convert.text_at args 0)) (convert.number_at args 1)

listening : (c : Class) (event : Name) (o : ℕ) → StepsAtMost (globals.listening c event o Done) 0
listening class.Plain event o = tt
listening class.Function event o = tt
listening class.Array event o = tt
listening class.Arguments event o = tt
listening class.Error event o = tt
listening class.Math event o = tt

listening_by : (v : Value) (event : Name) → StepsAtMost (globals.listening_by v event Done) 0
listening_by value.Undefined event = tt
listening_by value.Null event = tt
listening_by (value.Bool b) event = tt
listening_by (value.Num n) event = tt
listening_by (value.Str s) event = tt
listening_by (value.Object o) event = λ c. listening c event (o.0)

on : Row globals.on
on this args = listening_by (argument args 1) _

-- ---- the table

abbrev PlanTakesNone : Plan → Type 0
PlanTakesNone (Converts takes row) = Row row
PlanTakesNone (Goes program) = Row program
PlanTakesNone Enters = Unit {0}

true_false : true ≡ false → ⊥
true_false e = cc

takes_none : (n : Native) → loops_over_indices n ≡ false → PlanTakesNone (plan_of n)
takes_none native.Object e = object
takes_none native.Array e = array
takes_none native.String e = string
takes_none native.NewString e = λ this args. tt
takes_none native.Number e = number_function
takes_none native.NewNumber e = λ this args. tt
takes_none native.Boolean e = λ this args. tt
takes_none native.NewBoolean e = λ this args. tt
takes_none native.Error e = error built.ErrorPrototype
takes_none native.TypeError e = error built.TypeErrorPrototype
takes_none native.ReferenceError e = error built.ReferenceErrorPrototype
takes_none native.RangeError e = error built.RangeErrorPrototype
takes_none native.ParseInt e = parse_int
takes_none native.IsNan e = λ this args. tt
takes_none native.ObjectToString e = object_to_string
takes_none native.ObjectValueOf e = object_value_of
takes_none native.HasOwnProperty e = has_own
takes_none native.IsPrototypeOf e = is_prototype_of
takes_none native.PropertyIsEnumerable e = enumerable
takes_none native.FunctionToString e = function_to_string
takes_none native.Apply e = tt
takes_none native.Call e = tt
takes_none native.ArrayToString e = absurd (true_false e)
takes_none native.ArrayConcat e = absurd (true_false e)
takes_none native.Join e = absurd (true_false e)
takes_none native.Pop e = pop
takes_none native.Push e = push
takes_none native.Reverse e = absurd (true_false e)
takes_none native.Shift e = absurd (true_false e)
takes_none native.ArraySlice e = absurd (true_false e)
takes_none native.Splice e = absurd (true_false e)
takes_none native.Unshift e = absurd (true_false e)
takes_none native.FromCharCode e = from_char_code
takes_none native.StringToString e = string_value
takes_none native.StringValueOf e = string_value
takes_none native.CharAt e = λ this args. tt
takes_none native.CharCodeAt e = λ this args. tt
takes_none native.StringConcat e = string_concat
takes_none native.IndexOf e = λ this args. tt
takes_none native.LastIndexOf e = λ this args. tt
takes_none native.StringSlice e = λ this args. tt
takes_none native.Split e = split
takes_none native.Substring e = λ this args. tt
takes_none native.NumberToString e = number_to_string
takes_none native.NumberValueOf e = number_value_of
takes_none native.BooleanToString e = boolean_to_string
takes_none native.BooleanValueOf e = boolean_value_of
takes_none native.ErrorToString e = error_to_string
takes_none native.Abs e = λ this args. tt
takes_none native.Max e = λ this args. of_all math.greater_of args
takes_none native.Min e = λ this args. of_all math.less_of args
takes_none native.Floor e = λ this args. tt
takes_none native.Ceil e = λ this args. tt
takes_none native.Round e = λ this args. tt
takes_none native.On e = on

planned_takes_none : (p : Plan) (this : Value) (args : List Value) → PlanTakesNone p → StepsAtMost (asks.ended (planned p this args)) 0
planned_takes_none (Converts takes row) this args i = this_made (takes.this) this _ (λ u. all_made (takes.arguments) (takes.others) args _ (λ us. i u us))
planned_takes_none (Goes program) this args i = i this args
planned_takes_none Enters this args i = tt

-- ---- the loops

copied : (n : ℕ) (b : Bool) (from k made to : ℕ) (p : Program) → StepsAtMost p n → StepsAtMost (arrays.copied b from k made to p) n
copied n true from k made to p h = λ v. h
copied n false from k made to p h = h

elements : (ks : List ℕ) (from made n : ℕ) (k : ℕ → Program) (m : ℕ) → ((c : ℕ) → StepsAtMost (k c) m) → StepsAtMost (arrays.elements ks from made n k) (more ks m)
elements [] from made n k m h = h n
elements (x ∷ ks) from made n k m h = λ a. copied (more ks m) (is_some a) from x made n (arrays.elements ks from made (suc n) k) (elements ks from made (suc n) k m h)

piece : (n : ℕ) (v : Value) (k : Name → Program) → ((s : Name) → StepsAtMost (k s) n) → StepsAtMost (arrays.piece v k) n
piece n value.Undefined k h = h []
piece n value.Null k h = h []
piece n (value.Bool b) k h = h
piece n (value.Num a) k h = h
piece n (value.Str s) k h = h
piece n (value.Object o) k h = h

pieces : (ks : List ℕ) (o : ℕ) (between r : Name) (k : Name → Program) (m : ℕ) → ((s : Name) → StepsAtMost (k s) m) → StepsAtMost (arrays.pieces ks o between r k) (more ks m)
pieces [] o between r k m h = h r
pieces (x ∷ ks) o between r k m h =
    let on_joined : Name → Program = λ r. arrays.pieces ks o between r k in
    made (more ks m) (r ++ between) (λ s. Get o (decimal x) (λ v. arrays.piece v (λ next. asks.joined_text s next on_joined)))
    (λ s v. piece (more ks m) v (λ next. asks.joined_text s next on_joined) (λ next. made (more ks m) (s ++ next) on_joined (λ r. pieces ks o between r k m h)))

joined : (o n : ℕ) (between : Name) (k : Name → Program) → ((s : Name) → StepsAtMost (k s) 0) → StepsAtMost (arrays.joined o (suc n) between k) n
joined o n between k h =
    λ v. at (arrays.piece v (λ r. arrays.pieces (indices 1 n) o between r k)) (more (indices 1 n) 0) n (let e = more_indices 1 n 0 in omega (arith, e))
    (piece (more (indices 1 n) 0) v (λ r. arrays.pieces (indices 1 n) o between r k) (λ r. pieces (indices 1 n) o between r k 0 h))

moved_one : (n : ℕ) (b : Bool) (o source target : ℕ) (p : Program) → StepsAtMost p n → StepsAtMost (moves.moved_one b o source target p) n
moved_one n true o source target p h = λ v. h
moved_one n false o source target p h = h

moved : (ks : List ℕ) (o a b : ℕ) (p : Program) (m : ℕ) → StepsAtMost p m → StepsAtMost (moves.moved ks o a b p) (more ks m)
moved [] o a b p m h = h
moved (x ∷ ks) o a b p m h = λ c. moved_one (more ks m) (is_some c) o (x + a) (x + b) (moves.moved ks o a b p) (moved ks o a b p m h)

copies : (ks : List ℕ) (o start made : ℕ) (p : Program) (m : ℕ) → StepsAtMost p m → StepsAtMost (moves.copies ks o start made p) (more ks m)
copies [] o start made p m h = h
copies (x ∷ ks) o start made p m h = λ a. copied (more ks m) (is_some a) o (x + start) made x (moves.copies ks o start made p) (copies ks o start made p m h)

deletes : (ks : List ℕ) (o : ℕ) (p : Program) (m : ℕ) → StepsAtMost p m → StepsAtMost (moves.deletes ks o p) (more ks m)
deletes [] o p m h = h
deletes (x ∷ ks) o p m h = deletes ks o p m h

exchanged : (n : ℕ) (a b : Bool) (o lower upper : ℕ) (l u : Value) (p : Program) → StepsAtMost p n → StepsAtMost (moves.exchanged a b o lower upper l u p) n
exchanged n true true o lower upper l u p h = h
exchanged n false true o lower upper l u p h = h
exchanged n true false o lower upper l u p h = h
exchanged n false false o lower upper l u p h = h

reversed : (ks : List ℕ) (o n : ℕ) → StepsAtMost (moves.reversed ks o n Done) (more ks 0)
reversed [] o n = tt
reversed (x ∷ ks) o n = λ l u b c. exchanged (more ks 0) (is_some c) (is_some b) o x (n - x - 1) l u (moves.reversed ks o n Done) (reversed ks o n)

put_elements : (vs : List Value) (o k : ℕ) (p : Program) (n : ℕ) → StepsAtMost p n → StepsAtMost (moves.put_elements vs o k p) n
put_elements [] o k p n h = h
put_elements (v ∷ vs) o k p n h = put_elements vs o (suc k) p n h

shifted : (o n : ℕ) → StepsAtMost (moves.shifted o (suc n) Done) n
shifted o n = λ v. let p : Program = asks.delete o (decimal n) (arrays.put_length o n (asks.value_answer v Done)) in
    at (moves.moved (indices 0 n) o 1 0 p) (more (indices 0 n) 0) n (let e = more_indices 0 n 0 in omega (arith, e)) (moved (indices 0 n) o 1 0 p 0 tt)

halved : (o n : ℕ) → StepsAtMost (asks.ended (moves.reversed (indices 0 (n / 2)) o n)) (n / 2)
halved o n = at (moves.reversed (indices 0 (n / 2)) o n Done) (more (indices 0 (n / 2)) 0) (n / 2) (let e = more_indices 0 (n / 2) 0 in omega (arith, e)) (reversed (indices 0 (n / 2)) o n)

sliced : (o made start end : ℕ) → StepsAtMost (asks.ended (moves.copied_part o made start end)) (end - start)
sliced o made start end =
    let p : Program = arrays.with_length made (end - start) Done in
    at (moves.copies (indices 0 (end - start)) o start made p) (more (indices 0 (end - start)) 0) (end - start) (let e = more_indices 0 (end - start) 0 in omega (arith, e)) (copies (indices 0 (end - start)) o start made p 0 tt)

either : (n : ℕ) (b : Bool) (p q : Program) → StepsAtMost p n → StepsAtMost q n → StepsAtMost (if b then p else q) n
either n true p q h i = h
either n false p q h i = i

closed_up : (o n start gone come : ℕ) (p : Program) → StepsAtMost p 0 → StepsAtMost (moves.closed_or_opened o n start gone come p) ((n - gone - start) + (gone - come))
closed_up o n start gone come p h =
    let first : List ℕ = indices start (n - gone - start) in
    let last : List ℕ = downward (n - gone + come) (gone - come) in
    let right : List ℕ = downward start (n - gone - start) in
    let all : ℕ = (n - gone - start) + (gone - come) in
    either all (nat_lt come gone) (moves.moved first o gone come (moves.deletes last o p)) (if nat_lt gone come then moves.moved right o gone come p else p)
    (at (moves.moved first o gone come (moves.deletes last o p)) (more first (more last 0)) all (let e = more_indices start (n - gone - start) (more last 0) in let d = more_downward (n - gone + come) (gone - come) 0 in omega (arith, e, d)) (moved first o gone come (moves.deletes last o p) (more last 0) (deletes last o p 0 h)))
    (either all (nat_lt gone come) (moves.moved right o gone come p) p
    (rising (moves.moved right o gone come p) (more right 0) all (let d = more_downward start (n - gone - start) 0 in omega (arith, d)) (moved right o gone come p 0 h))
    (rising p 0 all (omega arith) h))

spliced : (o made n start gone : ℕ) (items : List Value) → StepsAtMost (asks.ended (moves.spliced o made n start gone items)) (gone + (n - gone - start) + (gone - convert.count_of items))
spliced o made n start gone items =
    let last : Program = arrays.put_length o (n - gone + convert.count_of items) (asks.object_answer made Done) in
    let put : Program = moves.put_elements items o start last in
    let closed : Program = moves.closed_or_opened o n start gone (convert.count_of items) put in
    let behind : ℕ = (n - gone - start) + (gone - convert.count_of items) in
    let p : Program = asks.write made length_name (whole gone) closed in
    at (moves.copies (indices 0 gone) o start made p) (more (indices 0 gone) behind) (gone + (n - gone - start) + (gone - convert.count_of items)) (let e = more_indices 0 gone behind in omega (arith, e))
    (copies (indices 0 gone) o start made p behind (closed_up o n start gone (convert.count_of items) put (put_elements items o start last 0 tt)))

unshifted : (o n : ℕ) (items : List Value) → StepsAtMost (asks.ended (moves.unshifted o n items)) n
unshifted o n items =
    let last : Program = arrays.put_length o (n + convert.count_of items) (asks.whole_answer (n + convert.count_of items) Done) in
    let put : Program = moves.put_elements items o 0 last in
    at (moves.moved (downward 0 n) o 0 (convert.count_of items) put) (more (downward 0 n) 0) n (let e = more_downward 0 n 0 in omega (arith, e)) (moved (downward 0 n) o 0 (convert.count_of items) put 0 (put_elements items o 0 last 0 tt))

pub of_indices : StepsAreOfIndices
of_indices = record {
  others = λ n this args e. planned_takes_none (plan_of n) this args (takes_none n e);
  join = joined;
  shift = shifted;
  reverse = halved;
  slice = sliced;
  splice = spliced;
  unshift = unshifted;
  concat = λ e made n count m k h. at (arrays.elements (indices 0 count) e made n k) (more (indices 0 count) m) (count + m) (more_indices 0 count m) (elements (indices 0 count) e made n k m h);
}
