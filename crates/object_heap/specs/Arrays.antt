-- The [[Put]] of an array (ES3 15.4.5.1), on its properties.
use Rattle.std.specs.Prelude.{ℕ, suc, Bool, ◌&&◌, nat_le, nat_lt, if◌then◌else◌, pos}
use Rattle.std.specs.Prelude.{false, List, [], ◌∷◌, Option, Some, None}
use Rattle.js_values.specs.declared.number.Num.TheVariants as number
use Rattle.js_values.specs.declared.value.Value.{Value}
use Rattle.js_values.specs.declared.value.Value.TheVariants as value
use Rattle.object_heap.specs.declared.object.Attrs.{Attrs}
use Rattle.object_heap.specs.Names.{Name, is_same_name, length_name, greatest_length, index_of}
use Rattle.object_heap.specs.Objects.{Slot, Holds, Shares, Property, own_in}

abbrev pub whole : ℕ → Value
whole n = value.Num (number.Whole (pos n))

-- ---- a property gets a value

abbrev pub no_attributes : Attrs
no_attributes = record { read_only = false; hidden = false; fixed = false }

-- one that is there keeps its attributes and its place, a new one has none and comes last
abbrev pub put_value : List Property → Name → Value → List Property
put_value [] name v = record { name = name; slot = Holds v; attributes = no_attributes } ∷ []
put_value (p ∷ ps) name v =
    if is_same_name p.name name then record p { slot = Holds v } ∷ ps
    else p ∷ put_value ps name v

-- ---- `length`

-- the length that a value is, where it is one: a whole number from 0 to 2^32 - 1
abbrev pub length_if : ℕ → Option ℕ
length_if n = if nat_le n greatest_length then Some n else None

abbrev pub length_value : Value → Option ℕ
length_value (value.Num (number.Whole (pos n))) = length_if n
length_value v = None

abbrev pub length_held : Option ℕ → ℕ
length_held None = 0
length_held (Some n) = n

abbrev pub length_in_slot : Slot → ℕ
length_in_slot (Holds v) = length_held (length_value v)
length_in_slot (Shares scope place) = 0

abbrev pub length_in_own : Option Property → ℕ
length_in_own None = 0
length_in_own (Some p) = length_in_slot p.slot

-- the length of an array that has these properties
abbrev pub length_in : List Property → ℕ
length_in properties = length_in_own (own_in properties length_name)

-- step 14: the indices from the new length on go
abbrev pub is_between : ℕ → ℕ → Option ℕ → Bool
is_between new old None = false
is_between new old (Some k) = nat_le new k && nat_lt k old

abbrev pub cut : ℕ → ℕ → List Property → List Property
cut new old [] = []
cut new old (p ∷ ps) =
    if is_between new old (index_of p.name) then cut new old ps else p ∷ cut new old ps

-- steps 12 to 15: None for a RangeError
abbrev pub put_length : List Property → Option ℕ → Option (List Property)
put_length properties None = None
put_length properties (Some n) =
    Some (put_value (cut n (length_in properties) properties) length_name (whole n))

-- ---- another name

-- steps 8 to 10: an index that is not below the length makes it one more than itself
abbrev pub grown : Option ℕ → List Property → List Property
grown None properties = properties
grown (Some k) properties =
    if nat_lt k (length_in properties) then properties
    else put_value properties length_name (whole (suc k))

-- steps 3 to 16
abbrev pub put_in_array : List Property → Name → Value → Option (List Property)
put_in_array properties name v =
    if is_same_name name length_name then put_length properties (length_value v)
    else Some (grown (index_of name) (put_value properties name v))
