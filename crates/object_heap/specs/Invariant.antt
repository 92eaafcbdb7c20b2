-- What holds of the objects of every heap.
use Rattle.std.specs.Prelude.{◌≡◌, ℕ, ◌≤◌, Bool, true, false, List, [], ◌∷◌, length, slice_get}
use Rattle.std.specs.Prelude.{Option, Some, None}
use Rattle.object_heap.specs.declared.object.Class.{Class}
use Rattle.object_heap.specs.declared.object.Class.TheVariants as class
use Rattle.object_heap.specs.Names.{Name, is_same_name, length_name}
use Rattle.object_heap.specs.declared.built_in.BuiltIn.TheVariants as built
use Rattle.object_heap.specs.BuiltIns.{number_of}
use Rattle.object_heap.specs.Objects.{Slot, Holds, Shares, Property, Object, Heap, class_of}
use Rattle.object_heap.specs.Laws.{PrototypesComeBefore}

abbrev pub holds_value : Slot → Bool
holds_value (Holds v) = true
holds_value (Shares scope place) = false

-- a property with the name `length`, which has its own value and cannot be deleted
pub record IsLength (p : Property) : Type 0 where
  pub named : is_same_name p.name length_name ≡ true
  pub has_value : holds_value p.slot ≡ true
  pub is_fixed : p.attributes.fixed ≡ true

abbrev pub BeginsWithLength : List Property → Type 0
BeginsWithLength [] = ⊥
BeginsWithLength (p ∷ ps) = IsLength p

-- the first property of an array is its `length`
abbrev pub HasLength : Class → List Property → Type 0
HasLength class.Array properties = BeginsWithLength properties
HasLength class.Plain properties = Unit {0}
HasLength class.Function properties = Unit {0}
HasLength class.Arguments properties = Unit {0}
HasLength class.Error properties = Unit {0}
HasLength class.Math properties = Unit {0}

abbrev pub ObjectHasLength : Option Object → Type 0
ObjectHasLength None = Unit {0}
ObjectHasLength (Some object) = HasLength object.class object.properties

abbrev pub ArraysHaveLength : Heap → Type 0
ArraysHaveLength heap = (o : ℕ) → ObjectHasLength (slice_get heap o)

-- 2^32 - 1
abbrev pub most_objects : ℕ
most_objects = 4294967295

abbrev pub objects_at_start : ℕ
objects_at_start = 65

pub record IsHeap (heap : Heap) (name : Name) : Type 0 where
  pub prototypes_before : PrototypesComeBefore heap
  pub arrays_have_length : ArraysHaveLength heap
  pub numbered : length heap ≤ most_objects
  -- the objects of the start are there
  pub at_start : objects_at_start ≤ length heap
  pub global_plain : class_of heap (number_of built.Global) ≡ Some class.Plain
  pub host_plain : class_of heap (number_of built.Host) ≡ Some class.Plain
  -- the name that arrays share
  pub named : name ≡ length_name
