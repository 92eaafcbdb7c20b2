-- What the table of an object holds.
use Rattle.std.specs.Prelude.{List, [], map, Option, Some, None}
use Rattle.std.specs.declared.boxed.Box.{Box}
use Rattle.indexmap.specs.IndexMap.{IndexMap}
use Rattle.js_values.specs.declared.value.Value.{Value}
use Rattle.object_heap.specs.declared.object.Attrs.{Attrs}
use Rattle.object_heap.specs.declared.entry.Entry.{Entry}
use Rattle.object_heap.specs.declared.entry.Entry.TheVariants as entry
use Rattle.object_heap.specs.Names.{Name}
use Rattle.object_heap.specs.Objects.{Slot, Property, Holds, Shares}
use Rattle.object_heap.specs.Changes.{hidden_only}

-- ---- a property

abbrev pub slot_of : Entry → Slot
slot_of (entry.Holds attributes v) = Holds v
slot_of (entry.Shares scope place) = Shares scope place

-- an index that shares its value is DontEnum
abbrev pub attributes_of : Entry → Attrs
attributes_of (entry.Holds attributes v) = attributes
attributes_of (entry.Shares scope place) = hidden_only

abbrev pub property_of : Name → Entry → Property
property_of name h =
    record { name = name; slot = slot_of h; attributes = attributes_of h }

-- the same attributes, and another value
abbrev pub holding_in : Entry → Value → Entry
holding_in e v = entry.Holds (attributes_of e) v

-- ---- the properties of an object

abbrev pub properties_of_entries : List (Name × Entry) → List Property
properties_of_entries entries = map (λ e. property_of e.0 e.1) entries

-- None is the empty table, which takes no memory
abbrev pub entries_of : {S A : Type 0} → Option (Box (IndexMap Name Entry S) A)
    → List (Name × Entry)
entries_of None = []
entries_of (Some table) = table.value.entries
