-- The natives of Array.prototype that move elements: reverse, shift, slice, splice and unshift (ES3
-- 15.4.4.8 to 15.4.4.13).
use Rattle.std.specs.Prelude.{ℕ, zero, suc, ◌+◌, ◌-◌, ◌/◌, min, ℤ, pos, negsuc, Bool, true, false}
use Rattle.std.specs.Prelude.{nat_lt, if◌then◌else◌, List, [], ◌∷◌, drop}
use Rattle.js_values.specs.declared.value.Value.{Value}
use Rattle.js_values.specs.declared.value.Value.TheVariants as value
use Rattle.object_heap.specs.Arrays.{whole}
use Rattle.object_heap.specs.Names.{decimal, length_name}
use Rattle.js_natives.specs.declared.answer.Answer.{Answer}
use Rattle.js_natives.specs.Program.{Program}
use Rattle.js_natives.specs.Asks.{Asks, ◌>>=◌, ◌>>◌, pure, step, number, get, put, has, write}
use Rattle.js_natives.specs.Asks.{delete, value_answer, whole_answer, object_answer}
use Rattle.js_natives.specs.Asks.{undefined_answer}
use Rattle.js_natives.specs.Indices.{indices, downward}
use Rattle.js_natives.specs.This.{this_object}
use Rattle.js_natives.specs.Convert.{argument, count_of, from_either_end, integer_of}
use Rattle.js_natives.specs.Arrays.{length_of, new_array, copied, put_length, with_length}

-- ---- what several have

-- ToInteger (9.4)
abbrev pub integer : Value → Asks ℤ
integer v = do
  n ← number v
  pure (integer_of n)

-- the element at an index goes to another, or that one goes where there is none
abbrev pub moved_one : Bool → ℕ → ℕ → ℕ → Program → Program
moved_one true o source target p = get o (decimal source) (λ v. put o (decimal target) v p)
moved_one false o source target p = delete o (decimal target) p

-- for each index k the element at k + a goes to k + b, in a step
abbrev pub moved : List ℕ → ℕ → ℕ → ℕ → Program → Program
moved [] o a b p = p
moved (k ∷ ks) o a b p =
    step (has o (decimal (k + a)) (λ is_there.
    moved_one is_there o (k + a) (k + b) (moved ks o a b p)))

-- ---- Array.prototype.reverse () (15.4.4.8)

-- steps 11 to 24: the lower and the upper element are exchanged, of which either may be missing;
-- steps 23 and 24 would delete what is not there
abbrev pub exchanged : Bool → Bool → ℕ → ℕ → ℕ → Value → Value → Program → Program
exchanged true true o lower upper l u p = put o (decimal lower) u (put o (decimal upper) l p)
exchanged false true o lower upper l u p = put o (decimal lower) u (delete o (decimal upper) p)
exchanged true false o lower upper l u p = delete o (decimal lower) (put o (decimal upper) l p)
exchanged false false o lower upper l u p = p

-- steps 5 to 26
abbrev pub reversed : List ℕ → ℕ → ℕ → Asks Answer
reversed [] o length = object_answer o
reversed (k ∷ ks) o length = do
  step
  l ← get o (decimal k)
  u ← get o (decimal (length - k - 1))
  has_upper ← has o (decimal (length - k - 1))
  has_lower ← has o (decimal k)
  exchanged has_lower has_upper o k (length - k - 1) l u
  reversed ks o length

abbrev pub reverse : Value → List Value → Asks Answer
reverse this args = do
  o ← this_object this
  length ← length_of o
  reversed (indices 0 (length / 2)) o length

-- ---- Array.prototype.shift () (15.4.4.9)

-- steps 4 and 5, and 6 to 20: the first element is read outside the loop
abbrev pub shifted : ℕ → ℕ → Asks Answer
shifted o zero = do
  put_length o 0
  undefined_answer
shifted o (suc n) = do
  first ← get o (decimal 0)
  moved (indices 0 n) o 1 0
  delete o (decimal n)
  put_length o n
  value_answer first

abbrev pub shift : Value → List Value → Asks Answer
shift this args = do
  o ← this_object this
  length ← length_of o
  shifted o length

-- ---- Array.prototype.slice (start, end) (15.4.4.10)

abbrev pub converted_end : Value → ℕ → Asks ℕ
converted_end v length = do
  n ← integer v
  pure (from_either_end n length)

-- steps 7 and 8: an end that is undefined is the length
abbrev pub end_of : Value → ℕ → Asks ℕ
end_of value.Undefined length = pure length
end_of v length = converted_end v length

-- steps 10 to 18: for each index k the element at k + start is copied to k of the new array
abbrev pub copies : List ℕ → ℕ → ℕ → ℕ → Program → Program
copies [] o start made p = p
copies (k ∷ ks) o start made p =
    step (has o (decimal (k + start)) (λ is_there.
    copied is_there o (k + start) made k (copies ks o start made p)))

-- steps 9 to 20
abbrev pub copied_part : ℕ → ℕ → ℕ → ℕ → Asks Answer
copied_part o made start end = do
  copies (indices 0 (end - start)) o start made
  with_length made (end - start)

-- steps 2 to 8
abbrev pub sliced : ℕ → ℕ → Value → Value → Asks Answer
sliced o made from to = do
  length ← length_of o
  n ← integer from
  end ← end_of to length
  copied_part o made (from_either_end n length) end

abbrev pub slice : Value → List Value → Asks Answer
slice this args = do
  o ← this_object this
  made ← new_array
  sliced o made (argument args 0) (argument args 1)

-- ---- Array.prototype.splice (start, deleteCount, item1, item2, ..) (15.4.4.12)

-- a number that is 0 where it would be negative
abbrev pub at_least_zero : ℤ → ℕ
at_least_zero (pos n) = n
at_least_zero (negsuc n) = 0

-- steps 48 to 52: elements from an index on
abbrev pub put_elements : List Value → ℕ → ℕ → Program → Program
put_elements [] o k p = p
put_elements (v ∷ vs) o k p = put o (decimal k) v (put_elements vs o (suc k) p)

-- steps 31 to 36: the elements at these indices go, in a step each
abbrev pub deletes : List ℕ → ℕ → Program → Program
deletes [] o p = p
deletes (k ∷ ks) o p = step (delete o (decimal k) (deletes ks o p))

-- steps 20 to 36: what stands behind moves to the left, beginning at the left, and then the last
-- ones go
abbrev pub closed : ℕ → ℕ → ℕ → ℕ → ℕ → Program → Program
closed o length start gone come p =
    moved (indices start (length - gone - start)) o gone come
    (deletes (downward (length - gone + come) (gone - come)) o p)

-- steps 37 to 47: it moves to the right, beginning at the right
abbrev pub opened : ℕ → ℕ → ℕ → ℕ → ℕ → Program → Program
opened o length start gone come p =
    moved (downward start (length - gone - start)) o gone come p

-- steps 18 and 19: where fewer come than go, where more come, and where as many do
abbrev pub closed_or_opened : ℕ → ℕ → ℕ → ℕ → ℕ → Program → Program
closed_or_opened o length start gone come p =
    if nat_lt come gone then closed o length start gone come p
    else if nat_lt gone come then opened o length start gone come p
    else p

-- steps 7 to 54
abbrev pub spliced : ℕ → ℕ → ℕ → ℕ → ℕ → List Value → Asks Answer
spliced o made length start gone items = do
  copies (indices 0 gone) o start made
  write made length_name (whole gone)
  closed_or_opened o length start gone (count_of items)
  put_elements items o start
  put_length o (length - gone + count_of items)
  object_answer made

abbrev pub splice : Value → List Value → Asks Answer
splice this args = do
  o ← this_object this
  made ← new_array
  length ← length_of o
  n ← integer (argument args 0)
  count ← integer (argument args 1)
  spliced o made length (from_either_end n length)
      (min (at_least_zero count) (length - from_either_end n length)) (drop 2 args)

-- ---- Array.prototype.unshift (item1, item2, ..) (15.4.4.13)

-- steps 3 to 22: all move, from the right, also where there are no items
abbrev pub unshifted : ℕ → ℕ → List Value → Asks Answer
unshifted o length items = do
  moved (downward 0 length) o 0 (count_of items)
  put_elements items o 0
  put_length o (length + count_of items)
  whole_answer (length + count_of items)

abbrev pub unshift : Value → List Value → Asks Answer
unshift this args = do
  o ← this_object this
  length ← length_of o
  unshifted o length args
