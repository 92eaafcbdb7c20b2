-- How values are shown in reports, and the ranks of objects there.
use Rattle.std.specs.Prelude.{ℕ, suc, ◌==◌, not, if◌then◌else◌}
use Rattle.std.specs.Prelude.{List, [], ◌∷◌, ◌++◌, codes}
use Rattle.std.specs.List.{list_any, prefix_len}
use Rattle.dl_text.specs.Quote.{quoted}
use Rattle.js_values.specs.declared.shown.Shown.{Shown}
use Rattle.js_values.specs.declared.shown.Shown.TheVariants as shown
use Rattle.js_values.specs.declared.value.Value.{Value}
use Rattle.js_values.specs.declared.value.Value.TheVariants as value
use Rattle.js_values.specs.declared.value.ObjectId.{ObjectId}
use Rattle.js_values.specs.Numerals.{number_text, digits_text}
use Rattle.js_values.specs.Values.{text_of_bool}

-- ---- ranks: the objects that have passed, in order, each where it passed first

abbrev pub Passed : Type 0
Passed = List ℕ

-- the rank of an object from 1: its place among those that have passed, or the next one
abbrev pub rank_of : Passed → ObjectId → ℕ
rank_of passed o = suc (prefix_len (λ p. not (p == o.0)) passed)

-- what has passed once the value has
abbrev pub passed_with : Passed → Value → Passed
passed_with passed value.Undefined = passed
passed_with passed value.Null = passed
passed_with passed (value.Bool b) = passed
passed_with passed (value.Num n) = passed
passed_with passed (value.Str text) = passed
passed_with passed (value.Object o) =
    if list_any (λ p. p == o.0) passed then passed else passed ++ o.0 ∷ []

-- what has passed once these values have, in order
abbrev pub passed_with_all : Passed → List Value → Passed
passed_with_all passed [] = passed
passed_with_all passed (v ∷ vs) = passed_with_all (passed_with passed v) vs

-- ---- shown values

-- the value as it is shown when it passes
abbrev pub shown_of : Passed → Value → Shown
shown_of passed value.Undefined = shown.Undefined
shown_of passed value.Null = shown.Null
shown_of passed (value.Bool b) = shown.Bool b
shown_of passed (value.Num n) = shown.Num n
shown_of passed (value.Str text) = shown.Str text
shown_of passed (value.Object o) = shown.Object (rank_of passed o)

-- the values as they are shown when they pass one after another
abbrev pub shown_of_all : Passed → List Value → List Shown
shown_of_all passed [] = []
shown_of_all passed (v ∷ vs) = shown_of passed v ∷ shown_of_all (passed_with passed v) vs

-- the text of a shown value, in bytes
abbrev pub shown_text : Shown → List ℕ
shown_text shown.Undefined = codes "undefined"
shown_text shown.Null = codes "null"
shown_text (shown.Bool b) = text_of_bool b
shown_text (shown.Num n) = number_text 10 n
shown_text (shown.Str text) = quoted text
shown_text (shown.Object rank) = 35 ∷ digits_text 10 rank
