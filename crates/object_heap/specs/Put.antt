-- [[Put]] (ES3 8.6.2.2, 15.4.5.1): what a write to a property does, or why it does nothing.
use Rattle.std.specs.Prelude.{ℕ, Bool, true, false, List, Option, Some, None, option_map}
use Rattle.js_values.specs.declared.value.Value.{Value}
use Rattle.object_heap.specs.declared.object.Class.{Class}
use Rattle.object_heap.specs.declared.object.Class.TheVariants as class
use Rattle.object_heap.specs.Names.{Name}
use Rattle.object_heap.specs.Objects.{Slot, Holds, Shares, Property, Object, Heap, own_in, changed}
use Rattle.object_heap.specs.Get.{can_put}
use Rattle.object_heap.specs.Arrays.{put_value, put_in_array}
use Rattle.std.specs.Prelude.{slice_get}

pub data Put : Type 0 where
  -- the heap is now this one
  Done : (heap : Heap) → Put
  -- the heap stays, since the property cannot be put (ES3 8.6.2.3)
  Ignored : Put
  -- the heap stays, and the value belongs to this place of a scope, which an own index shares
  Shared : (scope : ℕ) → (place : ℕ) → Put
  -- the heap stays, and a RangeError is due: the value is no length of an array
  BadLength : Put

-- the properties after the write, by the object's class; None for a RangeError
abbrev pub put_by : Class → List Property → Name → Value → Option (List Property)
put_by class.Array properties name v = put_in_array properties name v
put_by class.Plain properties name v = Some (put_value properties name v)
put_by class.Function properties name v = Some (put_value properties name v)
put_by class.Arguments properties name v = Some (put_value properties name v)
put_by class.Error properties name v = Some (put_value properties name v)
put_by class.Math properties name v = Some (put_value properties name v)

abbrev pub done_or_bad : Heap → ℕ → Object → Option (List Property) → Put
done_or_bad heap o object None = BadLength
done_or_bad heap o object (Some properties) = Done (changed heap o object properties)

-- by where the object's own property has its value, if it has that property
abbrev pub put_own : Heap → ℕ → Object → Option Slot → Name → Value → Put
put_own heap o object (Some (Shares scope place)) name v = Shared scope place
put_own heap o object (Some (Holds old)) name v =
    done_or_bad heap o object (put_by object.class object.properties name v)
put_own heap o object None name v =
    done_or_bad heap o object (put_by object.class object.properties name v)

abbrev pub put_if : Bool → Heap → ℕ → Option Object → Name → Value → Put
put_if can heap o None name v = Ignored
put_if false heap o (Some object) name v = Ignored
put_if true heap o (Some object) name v =
    put_own heap o object (option_map (λ p. p.slot) (own_in object.properties name)) name v

abbrev pub put : Heap → ℕ → Name → Value → Put
put heap o name v = put_if (can_put heap o name) heap o (slice_get heap o) name v

-- the heap after a write
abbrev pub heap_after : Heap → Put → Heap
heap_after heap (Done after) = after
heap_after heap Ignored = heap
heap_after heap (Shared scope place) = heap
heap_after heap BadLength = heap

abbrev pub written : Heap → ℕ → Name → Value → Heap
written heap o name v = heap_after heap (put heap o name v)
