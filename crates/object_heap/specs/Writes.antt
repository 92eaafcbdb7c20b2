-- What the steps of a write do to the properties of one object.
use Rattle.std.specs.Prelude.{ℕ, Bool, true, false, List, [], ◌∷◌, Option, Some, None}
use Rattle.std.specs.Prelude.{Result, Ok, Err}
use Rattle.js_values.specs.declared.value.Value.{Value}
use Rattle.object_heap.specs.declared.object.Class.{Class}
use Rattle.object_heap.specs.declared.object.Class.TheVariants as class
use Rattle.object_heap.specs.declared.entry.Entry.{Entry}
use Rattle.object_heap.specs.declared.entry.Written.{Written}
use Rattle.object_heap.specs.declared.entry.Written.TheVariants.{Done, ReadOnly, Shared, Absent}
use Rattle.object_heap.specs.declared.answer.HeapError.{HeapError}
use Rattle.object_heap.specs.declared.answer.HeapError.TheVariants.{BadLength}
use Rattle.object_heap.specs.Names.{Name, index_of}
use Rattle.object_heap.specs.Objects.{Slot, Holds, Shares, Property, Object, own_in}
use Rattle.object_heap.specs.Arrays.{whole, no_attributes, put_value, length_in_own, cut, grown}
use Rattle.object_heap.specs.Changes.{put_property, holding}
use Rattle.object_heap.specs.Put.{put_by}
use Rattle.object_heap.specs.Stored.{holding_in}

-- ---- to an own property

abbrev pub written_by : Bool → Slot → Written
written_by true slot = ReadOnly
written_by false (Shares scope place) = Shared scope place
written_by false (Holds old) = Done

-- what comes of it; the value comes back where there is no property
abbrev pub written_own : Option Property → Value → Written
written_own None v = Absent v
written_own (Some p) v = written_by p.attributes.read_only p.slot

abbrev pub entry_after : Written → Entry → Value → Entry
entry_after Done e v = holding_in e v
entry_after ReadOnly e v = e
entry_after (Shared scope place) e v = e
entry_after (Absent back) e v = e

abbrev pub properties_after : Written → List Property → Name → Value → List Property
properties_after Done properties name v = put_value properties name v
properties_after ReadOnly properties name v = properties
properties_after (Shared scope place) properties name v = properties
properties_after (Absent back) properties name v = properties

-- ---- the first property, which is the `length` of an array

abbrev pub first : List Property → Option Property
first [] = None
first (p ∷ ps) = Some p

abbrev pub first_length : List Property → ℕ
first_length properties = length_in_own (first properties)

abbrev pub with_length : List Property → ℕ → List Property
with_length [] n = []
with_length (p ∷ ps) n = record p { slot = Holds (whole n) } ∷ ps

-- an index at or behind the length of an array makes it longer
abbrev pub grown_by : Class → Option ℕ → List Property → List Property
grown_by class.Array index properties = grown index properties
grown_by class.Plain index properties = properties
grown_by class.Function index properties = properties
grown_by class.Arguments index properties = properties
grown_by class.Error index properties = properties
grown_by class.Math index properties = properties

-- ---- to the `length` of an array, which is the first property

abbrev pub is_first_read_only : List Property → Bool
is_first_read_only [] = false
is_first_read_only (p ∷ ps) = p.attributes.read_only

abbrev pub length_answer : Bool → Option ℕ → Result Written HeapError
length_answer true n = Ok ReadOnly
length_answer false None = Err BadLength
length_answer false (Some n) = Ok Done

abbrev pub length_after : Bool → List Property → Option ℕ → List Property
length_after true properties n = properties
length_after false properties None = properties
length_after false properties (Some n) =
    with_length (cut n (first_length properties) properties) n

-- ---- to an object, by its class

abbrev pub answer_of : Bool → Slot → Option (List Property) → Result Written HeapError
answer_of true slot after = Ok ReadOnly
answer_of false (Shares scope place) after = Ok (Shared scope place)
answer_of false (Holds old) None = Err BadLength
answer_of false (Holds old) (Some properties) = Ok Done

abbrev pub answer_by : Option Property → Option (List Property) → Value → Result Written HeapError
answer_by None after v = Ok (Absent v)
answer_by (Some p) after v = answer_of p.attributes.read_only p.slot after

-- of a write to its own property, which comes back where there is none
abbrev pub own_answer : Object → Name → Value → Result Written HeapError
own_answer object name v =
    answer_by (own_in object.properties name) (put_by object.class object.properties name v) v

abbrev pub after_of : Result Written HeapError → Option (List Property) → List Property
    → List Property
after_of (Ok Done) (Some after) before = after
after_of (Ok Done) None before = before
after_of (Ok ReadOnly) after before = before
after_of (Ok (Shared scope place)) after before = before
after_of (Ok (Absent v)) after before = before
after_of (Err e) after before = before

abbrev pub own_after : Object → Name → Value → List Property
own_after object name v =
    after_of (own_answer object name v) (put_by object.class object.properties name v)
    object.properties

-- a property that is new
abbrev pub added : Class → List Property → Name → Value → List Property
added class properties name v =
    grown_by class (index_of name) (put_property properties (holding name v no_attributes))
