-- What the calls of a heap answer, in the words of the definitions.
use Rattle.std.specs.Prelude.{◌≡◌, ℕ, true, false, Option, Some, None, option_map, Result, Ok, Err}
use Rattle.std.specs.Prelude.{List, [], ◌∷◌, ◌++◌}
use Rattle.js_values.specs.declared.value.ObjectId.{ObjectId}
use Rattle.object_heap.specs.declared.answer.Prop.{Prop}
use Rattle.object_heap.specs.declared.answer.Prop.TheVariants as prop
use Rattle.object_heap.specs.declared.answer.Put.{Put}
use Rattle.object_heap.specs.declared.answer.Put.TheVariants as answer
use Rattle.object_heap.specs.declared.answer.HeapError.{HeapError}
use Rattle.object_heap.specs.declared.answer.HeapError.TheVariants.{BadLength, OutOfMemory}
use Rattle.object_heap.specs.declared.visited.Visit.{Visit}
use Rattle.object_heap.specs.Visited as visited
use Rattle.object_heap.specs.declared.object.Class.{Class}
use Rattle.object_heap.specs.declared.object.Class.TheVariants as class
use Rattle.object_heap.specs.Names.{Name, is_same_name, length_name, index_of}
use Rattle.object_heap.specs.Objects.{Slot, Holds, Shares, Property, Heap, properties_of}
use Rattle.object_heap.specs.Invariant.{holds_value}
use Rattle.object_heap.specs.Put as put

-- where a value is
abbrev pub slot_shown : Prop → Slot
slot_shown (prop.Own v) = Holds v.now
slot_shown (prop.Shared scope place) = Shares scope place

-- the number of an object, if there is one
abbrev pub number : Option ObjectId → Option ℕ
number id = option_map (λ o. o.0) id

-- what a write did, or why it failed
abbrev pub told : put.Put → Result Put HeapError
told (put.Done after) = Ok answer.Done
told put.Ignored = Ok answer.Ignored
told (put.Shared scope place) = Ok (answer.Shared scope place)
told put.BadLength = Err BadLength

-- the call may find no memory, and answers this otherwise
abbrev pub IsAnswer : Result Put HeapError → Result Put HeapError → Type 0
IsAnswer (Ok done) expected = Ok done ≡ expected
IsAnswer (Err BadLength) expected = Err BadLength ≡ expected
IsAnswer (Err OutOfMemory) expected = Unit {0}

-- ---- what a `for-in` visits

abbrev pub visit_shown : Visit → visited.Visit
visit_shown v = (v.object.0, v.name)

-- the properties of several objects, one after another
abbrev pub properties_along : Heap → List ℕ → List Property
properties_along heap [] = []
properties_along heap (o ∷ os) = properties_of heap o ++ properties_along heap os

-- ---- what the calls ask for

-- the own property, if any, is no index that shares its value
abbrev pub IsUnshared : Option Property → Type 0
IsUnshared None = Unit {0}
IsUnshared (Some p) = holds_value p.slot ≡ true

-- of an array neither `length` nor an index
abbrev pub IsPlainName : Option Class → Name → Type 0
IsPlainName None name = Unit {0}
IsPlainName (Some class.Array) name =
    (is_same_name name length_name ≡ false) × (index_of name ≡ None)
IsPlainName (Some class.Plain) name = Unit {0}
IsPlainName (Some class.Function) name = Unit {0}
IsPlainName (Some class.Arguments) name = Unit {0}
IsPlainName (Some class.Error) name = Unit {0}
IsPlainName (Some class.Math) name = Unit {0}
