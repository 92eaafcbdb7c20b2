-- String and String.prototype (ES3 15.5). `this` and the arguments have been converted: step 1 of
-- each, and those steps that convert an argument.
use Rattle.std.specs.Prelude.{ℕ, zero, suc, ◌-◌, ◌^◌, min, max, ℤ, pos, negsuc, neg_ℤ}
use Rattle.std.specs.Prelude.{◌&&◌, nat_eq, nat_le, if◌then◌else◌, List, [], ◌∷◌, ◌++◌, map}
use Rattle.std.specs.Prelude.{length, take, drop, slice_get, Option, Some, None}
use Rattle.std.specs.List.{starts_with, flat_map}
use Rattle.js_values.specs.declared.number.Num.{Num}
use Rattle.js_values.specs.declared.number.Num.TheVariants.{NaN, Whole}
use Rattle.js_values.specs.declared.value.Value.{Value}
use Rattle.js_values.specs.declared.value.Value.TheVariants as value
use Rattle.js_values.specs.declared.reason.Reason.TheVariants.{Wrapper}
use Rattle.js_values.specs.Integers.{uint32_of}
use Rattle.object_heap.specs.Names.{Name}
use Rattle.js_natives.specs.declared.answer.Answer.{Answer}
use Rattle.js_natives.specs.Asks.{Asks, ◌>>=◌, ◌>>◌, stop, made_text, text_answer, number_answer}
use Rattle.js_natives.specs.Asks.{object_answer}
use Rattle.js_natives.specs.This.{this_text}
use Rattle.js_natives.specs.Convert.{argument, argument_converted, integer_at, number_at, number_in}
use Rattle.js_natives.specs.Convert.{text_at, text_in, this_converted, uint16_of, integer_of}
use Rattle.js_natives.specs.Convert.{from_either_end, within, MadeText, ToTextIfAny, ToNumberIfAny}
use Rattle.js_natives.specs.Arrays.{new_array, with_elements}

-- ---- String ([value]) (15.5.1.1), and new String (15.5.2.1)

abbrev pub string : Value → List Value → Asks Answer
string this [] = text_answer []
string this (v ∷ vs) = text_answer (text_in v)

-- a primitive would be put into an object; so it is with new Number and new Boolean (15.7.2.1,
-- 15.6.2.1)
abbrev pub new_wrapper : Value → List Value → Asks Answer
new_wrapper this args = stop Wrapper

-- ---- String.fromCharCode (char0, char1, ..) (15.5.3.2)

abbrev pub from_char_code : Value → List Value → Asks Answer
from_char_code this args = do
  s ← made_text (map (λ v. uint16_of (number_in v)) args)
  text_answer s

-- ---- String.prototype.toString () and String.prototype.valueOf () (15.5.4.2, 15.5.4.3)

abbrev pub string_value : Value → List Value → Asks Answer
string_value this args = do
  s ← this_text this
  text_answer s

-- ---- String.prototype.charAt (pos) and String.prototype.charCodeAt (pos) (15.5.4.4, 15.5.4.5)

-- the unit at a position, or None where there is none
abbrev pub unit_at : Name → ℤ → Option ℕ
unit_at s (pos n) = slice_get s n
unit_at s (negsuc n) = None

abbrev pub unit_text : Option ℕ → Name
unit_text None = []
unit_text (Some u) = u ∷ []

abbrev pub char_at : Value → List Value → Asks Answer
char_at this args = text_answer (unit_text (unit_at (text_in this) (integer_at args 0)))

abbrev pub unit_number : Option ℕ → Num
unit_number None = NaN
unit_number (Some u) = Whole (pos u)

abbrev pub char_code_at : Value → List Value → Asks Answer
char_code_at this args = number_answer (unit_number (unit_at (text_in this) (integer_at args 0)))

-- ---- String.prototype.concat (string1, string2, ..) (15.5.4.6)

abbrev pub string_concat : Value → List Value → Asks Answer
string_concat this args = do
  s ← made_text (text_in this ++ flat_map text_in args)
  text_answer s

-- ---- String.prototype.indexOf (searchString, position) (15.5.4.7)

-- step 7: the first place of a text in what is left of another from position k on
abbrev pub first_place : ℕ → Name → Name → Option ℕ
first_place k sought [] = if starts_with nat_eq [] sought then Some k else None
first_place k sought (u ∷ us) =
    if starts_with nat_eq (u ∷ us) sought then Some k else first_place (suc k) sought us

-- -1 for none
abbrev pub place_number : Option ℕ → Num
place_number None = Whole (neg_ℤ (pos 1))
place_number (Some k) = Whole (pos k)

abbrev pub index_in : Name → Name → ℕ → Asks Answer
index_in s sought start = number_answer (place_number (first_place start sought (drop start s)))

-- steps 4 and 5
abbrev pub index_of : Value → List Value → Asks Answer
index_of this args =
    index_in (text_in this) (text_at args 0)
    (within (integer_at args 1) (length (text_in this)))

-- ---- String.prototype.lastIndexOf (searchString, position) (15.5.4.8)

-- steps 4 to 6: NaN stands for a position behind all
abbrev pub last_start : Num → ℕ → ℕ
last_start NaN length = length
last_start (Whole z) length = within z length

abbrev pub later : Option ℕ → Option ℕ → Option ℕ
later None earlier = earlier
later (Some k) earlier = Some k

-- step 8: the last place that is not behind `last` in what is left from position k on
abbrev pub last_place : ℕ → ℕ → Name → Name → Option ℕ
last_place k last sought [] =
    if nat_le k last && starts_with nat_eq [] sought then Some k else None
last_place k last sought (u ∷ us) =
    later (last_place (suc k) last sought us)
    (if nat_le k last && starts_with nat_eq (u ∷ us) sought then Some k else None)

abbrev pub last_index_of : Value → List Value → Asks Answer
last_index_of this args =
    number_answer (place_number (last_place 0
    (last_start (number_at args 1) (length (text_in this))) (text_at args 0) (text_in this)))

-- ---- String.prototype.slice (start, end) (15.5.4.13)

-- the text between two positions; none where the second is not behind the first
abbrev pub between : ℕ → ℕ → Name → Name
between start end s = take (end - start) (drop start s)

-- step 4: an end that is undefined is that of the text; any other has been made a number
abbrev pub end_at : (ℤ → ℕ → ℕ) → Value → ℕ → ℕ
end_at counted (value.Num n) length = counted (integer_of n) length
end_at counted v length = length

-- steps 5 to 8
abbrev pub sliced_text : Name → ℤ → Value → Name
sliced_text s start end =
    between (from_either_end start (length s)) (end_at from_either_end end (length s)) s

abbrev pub string_slice : Value → List Value → Asks Answer
string_slice this args =
    text_answer (sliced_text (text_in this) (integer_at args 0) (argument args 1))

-- ---- String.prototype.split (separator, limit) (15.5.4.14)

-- each unit by itself, which an empty separator gives
abbrev pub singles : Name → List Name
singles s = map (λ u. u ∷ []) s

-- steps 10 to 30 for another separator: the piece that has begun, and the text that is left, of
-- which so many units of a separator are passed over
abbrev pub cut_pieces : Name → ℕ → Name → Name → List Name
cut_pieces between passed piece [] = piece ∷ []
cut_pieces between (suc passed) piece (u ∷ us) = cut_pieces between passed piece us
cut_pieces between zero piece (u ∷ us) =
    let here = starts_with nat_eq (u ∷ us) between in
    (if here then piece ∷ [] else [])
    ++ cut_pieces between (if here then length between - 1 else 0)
    (if here then [] else piece ++ u ∷ []) us

-- steps 9 to 34
abbrev pub pieces_of : Name → Name → List Name
pieces_of s [] = singles s
pieces_of s (u ∷ us) = cut_pieces (u ∷ us) 0 [] s

-- step 8: all in one piece where the separator is undefined; any other has been made a text
abbrev pub split_text : Name → Value → List Name
split_text s (value.Str between) = pieces_of s between
split_text s v = s ∷ []

-- step 3, where the limit has been converted unless it is undefined
abbrev pub limit_of : Value → ℕ
limit_of (value.Num n) = uint32_of n
limit_of v = 2 ^ 32 - 1

-- steps 2, 7, 17, 18 and 29: an array of the first of them
abbrev pub array_of_texts : List Name → Asks Answer
array_of_texts texts = do
  made ← new_array
  with_elements (map value.Str texts) made 0
  object_answer made

-- this one converts its second argument before its first
abbrev pub split : Value → List Value → Asks Answer
split this args = do
  s ← this_converted MadeText this
  limit ← argument_converted ToNumberIfAny (argument args 1)
  separator ← argument_converted ToTextIfAny (argument args 0)
  array_of_texts (take (limit_of limit) (split_text (text_in s) separator))

-- ---- String.prototype.substring (start, end) (15.5.4.15)

-- steps 7 to 9: from the smaller of the two to the greater
abbrev pub between_both : ℕ → ℕ → Name → Name
between_both a b s = between (min a b) (max a b) s

-- steps 5 and 6
abbrev pub substring_of : Name → ℤ → Value → Name
substring_of s start end =
    between_both (within start (length s)) (end_at within end (length s)) s

abbrev pub substring : Value → List Value → Asks Answer
substring this args =
    text_answer (substring_of (text_in this) (integer_at args 0) (argument args 1))
