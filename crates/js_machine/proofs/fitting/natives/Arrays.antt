-- Array, and Array.prototype but for what moves elements.
use Rattle.std.proofs.Common.{ℕ, zero, suc, Bool, true, false, List, [], ◌∷◌, ◌++◌, arith}
use Rattle.std.specs.Prelude.{is_some, pos}
use Rattle.js_values.specs.declared.number.Num.{Num}
use Rattle.js_values.specs.declared.number.Num.TheVariants.{Whole}
use Rattle.js_values.specs.declared.value.Value.{Value}
use Rattle.js_values.specs.declared.value.Value.TheVariants as value
use Rattle.js_values.specs.Equality.{same_number}
use Rattle.js_values.specs.Integers.{uint32_of}
use Rattle.object_heap.specs.declared.built_in.BuiltIn.TheVariants as built
use Rattle.object_heap.specs.declared.object.Class.{Class}
use Rattle.object_heap.specs.declared.object.Class.TheVariants as class
use Rattle.object_heap.specs.BuiltIns.{number_of}
use Rattle.object_heap.specs.Names.{Name}
use Rattle.js_natives.specs.declared.answer.ErrorKind.TheVariants.{RangeError}
use Rattle.js_natives.specs.Arrays.{length_of, new_array, with_elements, array_of, with_length, put_length, array_of_size, array_of_length, array_of_one, array, copied, elements, spread, alone, by_class, item, items, concat, separator, piece, pieces, joined, join_of, join, join_by_class, array_to_string, popped, pop, pushed, push}
use Rattle.js_natives.specs.Asks.{Asks, throw, the_object}
use Rattle.js_natives.specs.Convert.{number_in}
use Rattle.js_natives.specs.Indices.{indices}
use Rattle.js_natives.specs.Program.{Program, Done}
use Rattle.js_machine.specs.Reachable as fits
use Rattle.js_machine.specs.Reachable.{Each, Counts, IsObject, IsInReach, ValueFits}
use Rattle.js_machine.proofs.fitting.Growth.{stays, grows_on, started, is_there, later_reach, later_value, later_values}
use Rattle.js_machine.proofs.fitting.natives.Family as asks
use Rattle.js_machine.proofs.fitting.natives.Family.{NativeFits, OnObjects, OnAll, later_native, chosen}
use Rattle.js_machine.proofs.fitting.natives.Convert.{Row, made_text_fits, this_object_fits, argument_fits}

-- ---- what several have

pub length_of_fits : {w : Counts} {o : ℕ} {k : ℕ → Program} → IsObject w o → OnAll ℕ w k → NativeFits w (length_of o k)
length_of_fits o h = asks.get o (λ v g a p. asks.number p (λ u f n. h u (grows_on g f) (uint32_of n)))

pub new_array_fits : {w : Counts} {k : ℕ → Program} → OnObjects w k → NativeFits w (new_array k)
new_array_fits h = asks.make (started (number_of built.ArrayPrototype) (omega arith)) h

pub with_elements_fits : {w : Counts} (n : ℕ) {vs : List Value} {made : ℕ} {p : Program} → Each (ValueFits w) vs → IsInReach w made → NativeFits w p → NativeFits w (with_elements vs made n p)
with_elements_fits n fits.empty made p = p
with_elements_fits n (fits.more a vs) made p = asks.write (is_there made) a (with_elements_fits (suc n) vs made p)

array_of_fits : {w : Counts} {vs : List Value} → Each (ValueFits w) vs → NativeFits w (array_of vs Done)
array_of_fits vs = new_array_fits (λ v g o p. with_elements_fits 0 (later_values g vs) p (asks.done (asks.value (fits.object p))))

pub with_length_fits : (n : ℕ) {w : Counts} {made : ℕ} → IsInReach w made → NativeFits w (with_length made n Done)
with_length_fits n made = asks.write (is_there made) fits.num (asks.done (asks.value (fits.object made)))

pub put_length_fits : (n : ℕ) {w : Counts} {o : ℕ} {p : Program} → IsInReach w o → NativeFits w p → NativeFits w (put_length o n p)
put_length_fits n o p = asks.put (is_there o) fits.num p

-- ---- Array

array_of_length_fits : (n : Num) {w : Counts} → NativeFits w (array_of_length n Done)
array_of_length_fits n = chosen (same_number (Whole (pos (uint32_of n))) n) (array_of_size (uint32_of n)) (throw RangeError) (new_array_fits (λ v g o p. with_length_fits (uint32_of n) p)) (asks.done asks.throw)

array_of_one_fits : {w : Counts} {a : Value} → ValueFits w a → NativeFits w (array_of_one a Done)
array_of_one_fits (fits.num {n = n}) = array_of_length_fits n
array_of_one_fits fits.undefined = array_of_fits (fits.more fits.undefined fits.empty)
array_of_one_fits fits.null = array_of_fits (fits.more fits.null fits.empty)
array_of_one_fits fits.bool = array_of_fits (fits.more fits.bool fits.empty)
array_of_one_fits fits.str = array_of_fits (fits.more fits.str fits.empty)
array_of_one_fits (fits.object o) = array_of_fits (fits.more (fits.object o) fits.empty)

pub array_fits : Row array
array_fits w this args t fits.empty = array_of_fits fits.empty
array_fits w this args t (fits.more a fits.empty) = array_of_one_fits a
array_fits w this args t (fits.more a (fits.more b vs)) = array_of_fits (fits.more a (fits.more b vs))

-- ---- concat

pub copied_fits : (b : Bool) (k n : ℕ) {w : Counts} {e made : ℕ} {p : Program} → IsObject w e → IsInReach w made → NativeFits w p → NativeFits w (copied b e k made n p)
copied_fits false k n e made p = p
copied_fits true k n e made p = asks.get e (λ v g a q. asks.write (is_there (later_reach g made)) q (later_native p g))

elements_fit : (ks : List ℕ) (n : ℕ) {w : Counts} {e made : ℕ} {k : ℕ → Program} → IsInReach w e → IsInReach w made → OnAll ℕ w k → NativeFits w (elements ks e made n k)
elements_fit [] n {w = w} e made h = h w (stays w) n
elements_fit (x ∷ ks) n e made h =
    let rest = elements_fit ks (suc n) e made h in
    asks.step (asks.own (is_there e) (λ v g a. copied_fits (is_some a) x n (is_there (later_reach g e)) (later_reach g made) (later_native rest g)))

alone_fits : (n : ℕ) {w : Counts} {a : Value} {made : ℕ} {k : ℕ → Program} → ValueFits w a → IsInReach w made → OnAll ℕ w k → NativeFits w (alone a made n k)
alone_fits n {w = w} a made h = asks.write (is_there made) a (h w (stays w) (suc n))

spread_fits : (n : ℕ) {w : Counts} {made e : ℕ} {k : ℕ → Program} → IsInReach w made → IsInReach w e → OnAll ℕ w k → NativeFits w (spread made n e k)
spread_fits n made e h = asks.get (is_there e) (λ v g a p. elements_fit (indices 0 (uint32_of (number_in a))) n (later_reach g e) (later_reach g made) (λ u f. h u (grows_on g f)))

by_class_fits : (c : Class) (m n : Asks ℕ) {w : Counts} {k : ℕ → Program} → NativeFits w (m k) → NativeFits w (n k) → NativeFits w (by_class c m n k)
by_class_fits class.Array m n p q = p
by_class_fits class.Plain m n p q = q
by_class_fits class.Function m n p q = q
by_class_fits class.Arguments m n p q = q
by_class_fits class.Error m n p q = q
by_class_fits class.Math m n p q = q

item_fits : (n : ℕ) {w : Counts} {a : Value} {made : ℕ} {k : ℕ → Program} → ValueFits w a → IsInReach w made → OnAll ℕ w k → NativeFits w (item a made n k)
item_fits n {made = made} (fits.object {o = o} p) q h =
    asks.class_of p (λ v g c. by_class_fits c (spread made n o.0) (alone (value.Object o) made n)
    (spread_fits n (later_reach g q) (later_reach g p) (λ u f. h u (grows_on g f))) (alone_fits n (fits.object (later_reach g p)) (later_reach g q) (λ u f. h u (grows_on g f))))
item_fits n fits.undefined made h = alone_fits n fits.undefined made h
item_fits n fits.null made h = alone_fits n fits.null made h
item_fits n fits.bool made h = alone_fits n fits.bool made h
item_fits n fits.num made h = alone_fits n fits.num made h
item_fits n fits.str made h = alone_fits n fits.str made h

items_fit : (vs : List Value) (n : ℕ) {w : Counts} {made : ℕ} {k : ℕ → Program} → Each (ValueFits w) vs → IsInReach w made → OnAll ℕ w k → NativeFits w (items vs made n k)
items_fit [] n {w = w} vs made h = h w (stays w) n
items_fit (a ∷ rest) n (fits.more p ps) made h = item_fits n p made (λ v g m. items_fit rest m (later_values g ps) (later_reach g made) (λ u f. h u (grows_on g f)))

pub concat_fits : Row concat
concat_fits w this args t vs =
    this_object_fits t (λ v g o p. new_array_fits (λ u f made q. items_fit (the_object o ∷ args) 0 (fits.more (fits.object (later_reach f p)) (later_values (grows_on g f) vs)) q (λ s e n.
    put_length_fits n (later_reach e q) (asks.done (asks.value (fits.object (later_reach e q)))))))

-- ---- join

separator_fits : {w : Counts} {a : Value} {k : Name → Program} → ValueFits w a → OnAll Name w k → NativeFits w (separator a k)
separator_fits {w = w} fits.undefined h = h w (stays w) _
separator_fits fits.null h = asks.text fits.null h
separator_fits fits.bool h = asks.text fits.bool h
separator_fits fits.num h = asks.text fits.num h
separator_fits fits.str h = asks.text fits.str h
separator_fits (fits.object o) h = asks.text (fits.object o) h

piece_fits : {w : Counts} {a : Value} {k : Name → Program} → ValueFits w a → OnAll Name w k → NativeFits w (piece a k)
piece_fits {w = w} fits.undefined h = h w (stays w) []
piece_fits {w = w} fits.null h = h w (stays w) []
piece_fits fits.bool h = asks.text fits.bool h
piece_fits fits.num h = asks.text fits.num h
piece_fits fits.str h = asks.text fits.str h
piece_fits (fits.object o) h = asks.text (fits.object o) h

pieces_fit : (ks : List ℕ) (between r : Name) {w : Counts} {o : ℕ} {k : Name → Program} → IsInReach w o → OnAll Name w k → NativeFits w (pieces ks o between r k)
pieces_fit [] between r {w = w} o h = h w (stays w) r
pieces_fit (x ∷ ks) between r o h =
    asks.step (made_text_fits (r ++ between) _ (asks.get (is_there o) (λ v g a p. piece_fits p (λ u f next.
    made_text_fits ((r ++ between) ++ next) _ (pieces_fit ks between ((r ++ between) ++ next) (later_reach (grows_on g f) o) (λ s e. h s (grows_on (grows_on g f) e)))))))

joined_fits : (n : ℕ) (between : Name) {w : Counts} {o : ℕ} {k : Name → Program} → IsInReach w o → OnAll Name w k → NativeFits w (joined o n between k)
joined_fits zero between {w = w} o h = h w (stays w) []
joined_fits (suc n) between o h =
    asks.get (is_there o) (λ v g a p. piece_fits p (λ u f r. pieces_fit (indices 1 n) between r (later_reach (grows_on g f) o) (λ s e. h s (grows_on (grows_on g f) e))))

join_of_fits : {w : Counts} {o : ℕ} {a : Value} → IsInReach w o → ValueFits w a → NativeFits w (join_of o a Done)
join_of_fits o a =
    length_of_fits (is_there o) (λ v g n. separator_fits (later_value g a) (λ u f between. joined_fits n between (later_reach (grows_on g f) o) (λ s e r. asks.done (asks.value (fits.str {text = r})))))

pub join_fits : Row join
join_fits w this args t vs = this_object_fits t (λ v g o p. join_of_fits p (later_value g (argument_fits vs 0)))

join_by_class_fits : (c : Class) {w : Counts} {o : ℕ} → IsInReach w o → NativeFits w (join_by_class c o Done)
join_by_class_fits class.Array o = join_of_fits o fits.undefined
join_by_class_fits class.Plain o = asks.done asks.throw
join_by_class_fits class.Function o = asks.done asks.throw
join_by_class_fits class.Arguments o = asks.done asks.throw
join_by_class_fits class.Error o = asks.done asks.throw
join_by_class_fits class.Math o = asks.done asks.throw

pub array_to_string_fits : Row array_to_string
array_to_string_fits w this args t vs = this_object_fits t (λ v g o p. asks.class_of p (λ u f c. join_by_class_fits c (later_reach f p)))

-- ---- pop and push

popped_fits : (n : ℕ) {w : Counts} {o : ℕ} → IsInReach w o → NativeFits w (popped o n Done)
popped_fits zero o = put_length_fits 0 o (asks.done (asks.value fits.undefined))
popped_fits (suc n) o = asks.get (is_there o) (λ v g a p. asks.delete (is_there (later_reach g o)) (put_length_fits n (later_reach g o) (asks.done (asks.value p))))

pub pop_fits : Row pop
pop_fits w this args t vs = this_object_fits t (λ v g o p. length_of_fits (is_there p) (λ u f n. popped_fits n (later_reach f p)))

pushed_fits : {w : Counts} (n : ℕ) {vs : List Value} {o : ℕ} → Each (ValueFits w) vs → IsInReach w o → NativeFits w (pushed vs o n Done)
pushed_fits n fits.empty o = put_length_fits n o (asks.done (asks.value fits.num))
pushed_fits n (fits.more a vs) o = asks.put (is_there o) a (pushed_fits (suc n) vs o)

pub push_fits : Row push
push_fits w this args t vs = this_object_fits t (λ v g o p. length_of_fits (is_there p) (λ u f n. pushed_fits n (later_values (grows_on g f) vs) (later_reach f p)))
