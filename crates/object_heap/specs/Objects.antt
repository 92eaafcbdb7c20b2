-- Objects and their properties (ES3 8.6), numbered in the order in which they are made.
use Rattle.std.specs.Prelude.{ℕ, zero, suc, nat_eq, if◌then◌else◌, List, [], ◌∷◌}
use Rattle.std.specs.Prelude.{Bool, Option, Some, None, option_map, slice_get, slice_set}
use Rattle.std.specs.List.{list_any}
use Rattle.js_values.specs.declared.value.Value.{Value}
use Rattle.object_heap.specs.declared.object.Class.{Class}
use Rattle.object_heap.specs.declared.object.Attrs.{Attrs}
use Rattle.object_heap.specs.Names.{Name, is_same_name}

-- where a property's value is: with the property, or in a scope at a place that it shares, as an
-- index of `arguments` does with a formal (ES3 10.1.8)
pub data Slot : Type 0 where
  Holds : (v : Value) → Slot
  Shares : (scope : ℕ) → (place : ℕ) → Slot

pub record Property : Type 0 where
  pub name : Name
  pub slot : Slot
  pub attributes : Attrs

-- an object: [[Class]], [[Prototype]], which was made before it, and the properties in the order in
-- which they were made
pub record Object : Type 0 where
  pub class : Class
  pub prototype : Option ℕ
  pub properties : List Property

abbrev pub Heap : Type 0
Heap = List Object

-- ---- one object of them

abbrev pub class_of : Heap → ℕ → Option Class
class_of heap o = option_map (λ object. object.class) (slice_get heap o)

abbrev pub prototype_in : Option Object → Option ℕ
prototype_in None = None
prototype_in (Some object) = object.prototype

abbrev pub prototype_of : Heap → ℕ → Option ℕ
prototype_of heap o = prototype_in (slice_get heap o)

abbrev pub properties_in : Option Object → List Property
properties_in None = []
properties_in (Some object) = object.properties

abbrev pub properties_of : Heap → ℕ → List Property
properties_of heap o = properties_in (slice_get heap o)

abbrev pub with_properties : Object → List Property → Object
with_properties object properties = record object { properties = properties }

-- the heap in which the object has other properties
abbrev pub changed : Heap → ℕ → Object → List Property → Heap
changed heap o object properties = slice_set heap o (with_properties object properties)

-- ---- own properties

abbrev pub own_in : List Property → Name → Option Property
own_in [] name = None
own_in (p ∷ ps) name = if is_same_name p.name name then Some p else own_in ps name

abbrev pub own_of : Heap → ℕ → Name → Option Property
own_of heap o name = own_in (properties_of heap o) name

abbrev pub attributes_of : Heap → ℕ → Name → Option Attrs
attributes_of heap o name = option_map (λ p. p.attributes) (own_of heap o name)

-- ---- the chain of an object: the object itself, its prototype, and so on (ES3 8.6.2)

abbrev pub chain_on : Option ℕ → (ℕ → List ℕ) → List ℕ
chain_on None chain = []
chain_on (Some o) chain = chain o

-- at most so many objects of it
abbrev pub chain_within : Heap → ℕ → ℕ → List ℕ
chain_within heap zero o = []
chain_within heap (suc count) o = o ∷ chain_on (prototype_of heap o) (chain_within heap count)

-- a prototype has a lower number, so there are no more than the number tells
abbrev pub chain_of : Heap → ℕ → List ℕ
chain_of heap o = chain_within heap (suc o) o

-- whether an object stands behind another along its prototypes (ES3 15.2.4.6, 15.3.5.3)
abbrev pub is_behind : Heap → ℕ → ℕ → Bool
is_behind heap o target =
    list_any (λ p. nat_eq p target) (chain_on (prototype_of heap o) (chain_of heap))
