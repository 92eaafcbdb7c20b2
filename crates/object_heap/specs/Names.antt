-- The names of properties, and which of them are indices (ES3 8.6, 15.4).
use Rattle.std.specs.Prelude.{ℕ, Bool, false, not, ◌&&◌, ◌==◌, nat_eq, nat_lt, if◌then◌else◌}
use Rattle.std.specs.Prelude.{List, [], ◌∷◌, codes, Option, Some, None}
use Rattle.std.specs.List.{list_all, starts_with}
use Rattle.std.specs.Cmp.Lexicographic.{pointwise}
use Rattle.std.specs.Str.Parse.{digits_value}
use Rattle.js_values.specs.Numerals.{digits_text}
use Rattle.js_values.specs.NumberTexts.{is_digit}

abbrev pub Name : Type 0
Name = List ℕ

abbrev pub is_same_name : Name → Name → Bool
is_same_name a b = pointwise nat_eq a b

abbrev pub length_name : Name
length_name = codes "length"

abbrev pub prototype_name : Name
prototype_name = codes "prototype"

abbrev pub constructor_name : Name
constructor_name = codes "constructor"

-- names that scripts cannot write
abbrev pub is_reserved : Name → Bool
is_reserved name = starts_with nat_eq name (codes "$dl_")

-- ---- indices

-- the text of a whole number (ES3 9.8.1)
abbrev pub decimal : ℕ → Name
decimal n = digits_text 10 n

-- 2^32 - 1, the greatest length of an array; an index is below it
abbrev pub greatest_length : ℕ
greatest_length = 4294967295

-- whether a name is such a text: digits, the first of which is `0` only where it is alone
abbrev pub is_whole_text : Name → Bool
is_whole_text [] = false
is_whole_text (c ∷ []) = is_digit c
is_whole_text (c ∷ (d ∷ ds)) = is_digit c && (not (c == 48) && list_all is_digit (d ∷ ds))

abbrev pub is_index : Name → Bool
is_index name = is_whole_text name && nat_lt (digits_value 10 name) greatest_length

-- the number that the name is the text of, where it is an index
abbrev pub index_of : Name → Option ℕ
index_of name = if is_index name then Some (digits_value 10 name) else None
