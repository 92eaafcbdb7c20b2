-- Objects that are to be converted, for the rows on ES3 8.6.2.6.
use Rattle.std.specs.Prelude.{Bool, List, [], ◌∷◌, codes}
use Rattle.js_values.specs.declared.value.Value.{Value}
use Rattle.object_heap.specs.Changes.{defined}
use Rattle.object_heap.specs.Objects.{Heap}
use Rattle.js_machine.specs.declared.frame.Frame.{Frame}
use Rattle.js_machine.specs.Conversions.{HintNumber, HintString}
use Rattle.js_machine.specs.Converted.{enters, enters_by}
use Rattle.js_machine.specs.NotBuilt.{LooksInside}
use Rattle.machine_rows.specs.Alone.{fixed, hosts, more_objects}
use Rattle.machine_rows.specs.Writing.{to_string}

-- 67 with `valueOf` and `toString` of its own
abbrev pub with_methods : Value → Value → Heap
with_methods value_of string_of =
    defined 67 (codes "valueOf") value_of fixed (defined 67 to_string string_of fixed more_objects)

-- whether it is entered for its number, and for its text
abbrev pub entered_by : Value → Value → List Bool
entered_by value_of string_of =
    enters (with_methods value_of string_of) hosts HintNumber 67
    ∷ enters (with_methods value_of string_of) hosts HintString 67 ∷ []

abbrev pub by_methods : Value → Value → Bool
by_methods first second = enters_by more_objects hosts first second

abbrev pub Looks : List Frame → List Value → Type 0
Looks fs vs = LooksInside more_objects hosts fs vs
