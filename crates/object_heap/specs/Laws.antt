-- What holds of every heap that calls make.
use Rattle.std.specs.Prelude.{◌≡◌, ◌==◌, ℕ, ◌<◌, Bool, false, List, ◌∷◌, length}
use Rattle.std.specs.Prelude.{Option, Some, None}
use Rattle.std.specs.List.{list_any}
use Rattle.js_values.specs.declared.value.Value.{Value}
use Rattle.js_values.specs.declared.value.Value.TheVariants as value
use Rattle.object_heap.specs.declared.built_in.BuiltIn.TheVariants as built
use Rattle.object_heap.specs.declared.object.Class.{Class}
use Rattle.object_heap.specs.Names.{Name}
use Rattle.object_heap.specs.Objects.{Slot, Holds, Shares, Property, Heap, chain_of, chain_on}
use Rattle.object_heap.specs.Objects.{prototype_of, properties_of}
use Rattle.object_heap.specs.BuiltIns.{number_of}
use Rattle.object_heap.specs.Get.{get}
use Rattle.object_heap.specs.Put.{written}
use Rattle.object_heap.specs.Changes.{made, with_property, deleted}
use Rattle.object_heap.specs.Start.{heap_at_start}

-- ---- a prototype was made before

abbrev pub PrototypesComeBefore : Heap → Type 0
PrototypesComeBefore heap = (o p : ℕ) → prototype_of heap o ≡ Some p → p < o

-- none, or an object that is there
abbrev pub IsThere : Heap → Option ℕ → Type 0
IsThere heap None = Unit {0}
IsThere heap (Some o) = o < length heap

-- it holds at the start, and each call keeps it
pub record PrototypesStayBefore : Type 0 where
  pub at_first : PrototypesComeBefore heap_at_start
  pub make : (heap : Heap) (class : Class) (prototype : Option ℕ) → IsThere heap prototype
      → PrototypesComeBefore heap → PrototypesComeBefore (made class prototype heap)
  pub put : (heap : Heap) (o : ℕ) (name : Name) (v : Value)
      → PrototypesComeBefore heap → PrototypesComeBefore (written heap o name v)
  -- also where it shares
  pub define : (heap : Heap) (o : ℕ) (new : Property)
      → PrototypesComeBefore heap → PrototypesComeBefore (with_property o new heap)
  pub delete : (heap : Heap) (o : ℕ) (name : Name)
      → PrototypesComeBefore heap → PrototypesComeBefore (deleted o name heap)

-- so the chain of an object is the object and the chain of its prototype, up to the last one
abbrev pub ChainsGoUp : Type 0
ChainsGoUp =
    (heap : Heap) (o : ℕ) → PrototypesComeBefore heap
    → chain_of heap o ≡ o ∷ chain_on (prototype_of heap o) (chain_of heap)

-- ---- an object that no property holds, as Function.prototype

abbrev pub is_object : ℕ → Value → Bool
is_object f (value.Object o) = o.0 == f
is_object f v = false

abbrev pub holds : ℕ → Slot → Bool
holds f (Holds v) = is_object f v
holds f (Shares scope place) = false

abbrev pub is_held_in : ℕ → List Property → Bool
is_held_in f properties = list_any (λ p. holds f p.slot) properties

-- so no read of a property gives it
abbrev pub IsNowhereHeld : ℕ → Heap → Type 0
IsNowhereHeld f heap = (o : ℕ) → is_held_in f (properties_of heap o) ≡ false

-- it holds of Function.prototype at the start, and each call keeps it that is not given the object
pub record NothingHolds : Type 0 where
  pub at_first : IsNowhereHeld (number_of built.FunctionPrototype) heap_at_start
  pub make : (f : ℕ) (heap : Heap) (class : Class) (prototype : Option ℕ)
      → IsNowhereHeld f heap → IsNowhereHeld f (made class prototype heap)
  pub put : (f : ℕ) (heap : Heap) (o : ℕ) (name : Name) (v : Value) → is_object f v ≡ false
      → IsNowhereHeld f heap → IsNowhereHeld f (written heap o name v)
  pub define : (f : ℕ) (heap : Heap) (o : ℕ) (new : Property) → holds f new.slot ≡ false
      → IsNowhereHeld f heap → IsNowhereHeld f (with_property o new heap)
  pub delete : (f : ℕ) (heap : Heap) (o : ℕ) (name : Name)
      → IsNowhereHeld f heap → IsNowhereHeld f (deleted o name heap)
  pub get : (f : ℕ) (heap : Heap) (o : ℕ) (name : Name) (slot : Slot)
      → IsNowhereHeld f heap → get heap o name ≡ Some slot → holds f slot ≡ false
