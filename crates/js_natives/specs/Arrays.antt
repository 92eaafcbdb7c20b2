-- Array, and Array.prototype but for what moves elements (ES3 15.4).
use Rattle.std.specs.Prelude.{ℕ, zero, suc, pos, Bool, true, false, if◌then◌else◌}
use Rattle.std.specs.Prelude.{List, [], ◌∷◌, codes}
use Rattle.js_values.specs.declared.number.Num.{Num}
use Rattle.js_values.specs.declared.number.Num.TheVariants.{Whole}
use Rattle.js_values.specs.declared.value.Value.{Value}
use Rattle.js_values.specs.declared.value.Value.TheVariants as value
use Rattle.js_values.specs.Equality.{same_number}
use Rattle.js_values.specs.Integers.{uint32_of}
use Rattle.object_heap.specs.declared.built_in.BuiltIn.TheVariants as built
use Rattle.object_heap.specs.declared.object.Class.{Class}
use Rattle.object_heap.specs.declared.object.Class.TheVariants as class
use Rattle.object_heap.specs.Arrays.{whole}
use Rattle.object_heap.specs.BuiltIns.{number_of}
use Rattle.object_heap.specs.Names.{Name, length_name, decimal}
use Rattle.js_natives.specs.declared.answer.ErrorKind.TheVariants.{TypeError, RangeError}
use Rattle.js_natives.specs.declared.answer.Answer.{Answer}
use Rattle.js_natives.specs.Program.{Program}
use Rattle.js_natives.specs.Asks.{Asks, ◌>>=◌, ◌>>◌, pure, step, text, number, get, put, make}
use Rattle.js_natives.specs.Asks.{class_of, has, write, delete, throw, value_answer, whole_answer}
use Rattle.js_natives.specs.Asks.{text_answer, object_answer, undefined_answer, the_object}
use Rattle.js_natives.specs.Asks.{joined_text}
use Rattle.js_natives.specs.Indices.{indices}
use Rattle.js_natives.specs.This.{this_object}
use Rattle.js_natives.specs.Convert.{argument, number_in}

-- ---- what several have

-- steps 1 and 2 of most: the length of an object, which need be no array
abbrev pub length_of : ℕ → Asks ℕ
length_of o = do
  v ← get o length_name
  n ← number v
  pure (uint32_of n)

-- a new array (15.4.2.1 without arguments)
abbrev pub new_array : Asks ℕ
new_array = make class.Array (number_of built.ArrayPrototype)

-- elements of a new array, from an index on
abbrev pub with_elements : List Value → ℕ → ℕ → Program → Program
with_elements [] made n p = p
with_elements (v ∷ vs) made n p = write made (decimal n) v (with_elements vs made (suc n) p)

abbrev pub array_of : List Value → Asks Answer
array_of items = do
  made ← new_array
  with_elements items made 0
  object_answer made

abbrev pub with_length : ℕ → ℕ → Asks Answer
with_length made n = do
  write made length_name (whole n)
  object_answer made

-- the object gets a length
abbrev pub put_length : ℕ → ℕ → Program → Program
put_length o n p = put o length_name (whole n) p

-- ---- Array (..) and new Array (..) (15.4.1.1, 15.4.2.1, 15.4.2.2)

-- a length alone
abbrev pub array_of_size : ℕ → Asks Answer
array_of_size length = do
  made ← new_array
  with_length made length

abbrev pub array_of_length : Num → Asks Answer
array_of_length n =
    if same_number (Whole (pos (uint32_of n))) n then array_of_size (uint32_of n)
    else throw RangeError

abbrev pub array_of_one : Value → Asks Answer
array_of_one (value.Num n) = array_of_length n
array_of_one v = array_of (v ∷ [])

abbrev pub array : Value → List Value → Asks Answer
array this [] = array_of []
array this (v ∷ []) = array_of_one v
array this (v ∷ (w ∷ vs)) = array_of (v ∷ (w ∷ vs))

-- ---- Array.prototype.concat (item1, item2, ..) (15.4.4.4)

-- steps 10 to 12
abbrev pub copied : Bool → ℕ → ℕ → ℕ → ℕ → Program → Program
copied false e k made n p = p
copied true e k made n p = get e (decimal k) (λ v. write made (decimal n) v p)

-- steps 7 to 15, with the count of elements so far
abbrev pub elements : List ℕ → ℕ → ℕ → ℕ → Asks ℕ
elements [] e made n = pure n
elements (k ∷ ks) e made n = do
  step
  is_there ← has e (decimal k)
  copied is_there e k made n
  elements ks e made (suc n)

-- steps 5 and 6: the length of an array is a number
abbrev pub spread : ℕ → ℕ → ℕ → Asks ℕ
spread made n e = do
  v ← get e length_name
  elements (indices 0 (uint32_of (number_in v))) e made n

-- steps 16 to 18
abbrev pub alone : Value → ℕ → ℕ → Asks ℕ
alone v made n = do
  write made (decimal n) v
  pure (suc n)

-- step 4
abbrev pub by_class : Class → Asks ℕ → Asks ℕ → Asks ℕ
by_class class.Array spreads stands = spreads
by_class c spreads stands = stands

abbrev pub item : Value → ℕ → ℕ → Asks ℕ
item (value.Object o) made n = do
  c ← class_of o.0
  by_class c (spread made n o.0) (alone (value.Object o) made n)
item v made n = alone v made n

-- steps 4 to 21
abbrev pub items : List Value → ℕ → ℕ → Asks ℕ
items [] made n = pure n
items (v ∷ vs) made n = do
  m ← item v made n
  items vs made m

-- step 22 throws RangeError where there are too many
abbrev pub concat : Value → List Value → Asks Answer
concat this args = do
  o ← this_object this
  made ← new_array
  n ← items (the_object o ∷ args) made 0
  put_length made n
  object_answer made

-- ---- Array.prototype.join (separator) (15.4.4.5)

-- steps 3 and 4
abbrev pub separator : Value → Asks Name
separator value.Undefined = pure (codes ",")
separator v = text v

-- steps 7 and 13
abbrev pub piece : Value → Asks Name
piece value.Undefined = pure []
piece value.Null = pure []
piece v = text v

-- steps 10 to 16
abbrev pub pieces : List ℕ → ℕ → Name → Name → Asks Name
pieces [] o between r = pure r
pieces (k ∷ ks) o between r = do
  step
  s ← joined_text r between
  v ← get o (decimal k)
  next ← piece v
  r ← joined_text s next
  pieces ks o between r

-- steps 5 to 9: the first element is read outside the loop
abbrev pub joined : ℕ → ℕ → Name → Asks Name
joined o zero between = pure []
joined o (suc n) between = do
  v ← get o (decimal 0)
  r ← piece v
  pieces (indices 1 n) o between r

abbrev pub join_of : ℕ → Value → Asks Answer
join_of o v = do
  length ← length_of o
  between ← separator v
  r ← joined o length between
  text_answer r

abbrev pub join : Value → List Value → Asks Answer
join this args = do
  o ← this_object this
  join_of o (argument args 0)

-- ---- Array.prototype.toString () (15.4.4.2): `join` of an array, without a separator

abbrev pub join_by_class : Class → ℕ → Asks Answer
join_by_class class.Array o = join_of o value.Undefined
join_by_class c o = throw TypeError

abbrev pub array_to_string : Value → List Value → Asks Answer
array_to_string this args = do
  o ← this_object this
  c ← class_of o
  join_by_class c o

-- ---- Array.prototype.pop () (15.4.4.6)

-- steps 4 and 5, and 6 to 10
abbrev pub popped : ℕ → ℕ → Asks Answer
popped o zero = do
  put_length o 0
  undefined_answer
popped o (suc n) = do
  v ← get o (decimal n)
  delete o (decimal n)
  put_length o n
  value_answer v

abbrev pub pop : Value → List Value → Asks Answer
pop this args = do
  o ← this_object this
  length ← length_of o
  popped o length

-- ---- Array.prototype.push (item1, item2, ..) (15.4.4.7)

-- steps 3 to 8
abbrev pub pushed : List Value → ℕ → ℕ → Asks Answer
pushed [] o n = do
  put_length o n
  whole_answer n
pushed (v ∷ vs) o n = do
  put o (decimal n) v
  pushed vs o (suc n)

abbrev pub push : Value → List Value → Asks Answer
push this args = do
  o ← this_object this
  length ← length_of o
  pushed args o length
