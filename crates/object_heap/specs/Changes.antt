-- New objects, properties that are defined or shared, and [[Delete]] (ES3 8.6.2.5).
use Rattle.std.specs.Prelude.{ℕ, Bool, true, false, not, if◌then◌else◌, List, [], ◌∷◌, ◌++◌}
use Rattle.std.specs.Prelude.{Option, Some, None, slice_get}
use Rattle.js_values.specs.declared.value.Value.{Value}
use Rattle.object_heap.specs.declared.object.Class.{Class}
use Rattle.object_heap.specs.declared.object.Class.TheVariants as class
use Rattle.object_heap.specs.declared.object.Attrs.{Attrs}
use Rattle.object_heap.specs.Names.{Name, is_same_name, length_name, decimal}
use Rattle.object_heap.specs.Objects.{Holds, Shares, Property, Object, Heap, own_of, changed}
use Rattle.object_heap.specs.Arrays.{whole}

-- ---- attributes: ReadOnly, DontEnum, DontDelete (ES3 8.6.1)

abbrev pub hidden_only : Attrs
hidden_only = record { read_only = false; hidden = true; fixed = false }

abbrev pub hidden_and_fixed : Attrs
hidden_and_fixed = record { read_only = false; hidden = true; fixed = true }

abbrev pub all_three : Attrs
all_three = record { read_only = true; hidden = true; fixed = true }

abbrev pub holding : Name → Value → Attrs → Property
holding name v attributes = record { name = name; slot = Holds v; attributes = attributes }

-- ---- new objects

-- an array begins with `length` 0 (ES3 15.4.5.2), another object without properties
abbrev pub first_properties : Class → List Property
first_properties class.Array = holding length_name (whole 0) hidden_and_fixed ∷ []
first_properties class.Plain = []
first_properties class.Function = []
first_properties class.Arguments = []
first_properties class.Error = []
first_properties class.Math = []

abbrev pub new_object : Class → Option ℕ → Object
new_object class prototype =
    record { class = class; prototype = prototype; properties = first_properties class }

-- the new object comes last; its number is the count of those before
abbrev pub made : Class → Option ℕ → Heap → Heap
made class prototype heap = heap ++ new_object class prototype ∷ []

-- ---- properties with their attributes

-- in the place of the one that has the name, or last
abbrev pub put_property : List Property → Property → List Property
put_property [] new = new ∷ []
put_property (p ∷ ps) new =
    if is_same_name p.name new.name then new ∷ ps else p ∷ put_property ps new

abbrev pub defined_at : Heap → ℕ → Option Object → Property → Heap
defined_at heap o None new = heap
defined_at heap o (Some object) new =
    changed heap o object (put_property object.properties new)

abbrev pub with_property : ℕ → Property → Heap → Heap
with_property o new heap = defined_at heap o (slice_get heap o) new

abbrev pub defined : ℕ → Name → Value → Attrs → Heap → Heap
defined o name v attributes heap = with_property o (holding name v attributes) heap

-- an index of `arguments` that shares its value with a place of a scope (ES3 10.1.8)
abbrev pub sharing : ℕ → ℕ → ℕ → Property
sharing index scope place =
    record { name = decimal index; slot = Shares scope place; attributes = hidden_only }

abbrev pub shared : ℕ → ℕ → ℕ → ℕ → Heap → Heap
shared o index scope place heap = with_property o (sharing index scope place) heap

-- ---- [[Delete]] (ES3 8.6.2.5)

-- its result: false where the property is there and DontDelete
abbrev pub is_deletable : Option Property → Bool
is_deletable None = true
is_deletable (Some p) = not p.attributes.fixed

abbrev pub can_delete : Heap → ℕ → Name → Bool
can_delete heap o name = is_deletable (own_of heap o name)

abbrev pub without : List Property → Name → List Property
without [] name = []
without (p ∷ ps) name = if is_same_name p.name name then ps else p ∷ without ps name

abbrev pub deleted_if : Bool → Heap → ℕ → Option Object → Name → Heap
deleted_if can heap o None name = heap
deleted_if false heap o (Some object) name = heap
deleted_if true heap o (Some object) name =
    changed heap o object (without object.properties name)

abbrev pub deleted : ℕ → Name → Heap → Heap
deleted o name heap = deleted_if (can_delete heap o name) heap o (slice_get heap o) name
