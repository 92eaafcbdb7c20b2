-- Objects of the rows.
use Rattle.std.specs.Prelude.{ℕ, zero, suc, false, true, List, [], ◌∷◌, map, codes}
use Rattle.std.specs.Prelude.{Option, Some, None, option_map}
use Rattle.js_values.specs.declared.value.Value.TheVariants as value
use Rattle.object_heap.specs.declared.object.Class.TheVariants as class
use Rattle.object_heap.specs.declared.object.Attrs.{Attrs}
use Rattle.object_heap.specs.declared.built_in.BuiltIn.{BuiltIn}
use Rattle.object_heap.specs.Names.{Name}
use Rattle.object_heap.specs.Objects.{Slot, Holds, Heap, own_of, properties_of}
use Rattle.object_heap.specs.Get.{get}
use Rattle.object_heap.specs.Arrays.{whole, no_attributes}
use Rattle.object_heap.specs.Put.{written}
use Rattle.object_heap.specs.Changes.{made, defined, shared, hidden_only}
use Rattle.object_heap.specs.BuiltIns.{number_of, which}
use Rattle.object_heap.specs.Start.{heap_at_start}

-- ---- small heaps, without the objects of the start

abbrev pub a : Name
a = codes "a"

abbrev pub b : Name
b = codes "b"

abbrev pub c : Name
c = codes "c"

abbrev pub read_only : Attrs
read_only = record { read_only = true; hidden = false; fixed = false }

abbrev pub fixed : Attrs
fixed = record { read_only = false; hidden = false; fixed = true }

-- 0 has a = 1 and b = 2, which is read-only; 1, behind which 0 stands, has a hidden c = 3; 2,
-- behind which 1 stands, has a = 4, which is fixed
abbrev pub three_objects : Heap
three_objects =
    defined 2 a (whole 4) fixed (made class.Plain (Some 1) (
    defined 1 c (whole 3) hidden_only (made class.Plain (Some 0) (
    defined 0 b (whole 2) read_only (defined 0 a (whole 1) no_attributes (
    made class.Plain None []))))))

-- an array with elements 7, 8 and 9 at 0, 1 and 5
abbrev pub one_array : Heap
one_array =
    written (written (written (made class.Array None []) 0 (codes "0") (whole 7))
    0 (codes "1") (whole 8)) 0 (codes "5") (whole 9)

-- an `arguments` whose index 0 shares place 2 of scope 5, and whose index 1 is 8
abbrev pub two_arguments : Heap
two_arguments =
    defined 0 (codes "1") (whole 8) hidden_only (shared 0 0 5 2 (made class.Arguments None []))

-- the properties of an object: their names and where their values are
abbrev pub contents : Heap → ℕ → List (Name × Slot)
contents heap o = map (λ p. (p.name, p.slot)) (properties_of heap o)

-- ---- the start

-- the object that is read along these names, beginning with the global object
abbrev pub object_in : Option Slot → Option ℕ
object_in (Some (Holds (value.Object o))) = Some o.0
object_in s = None

abbrev pub named_on : Option ℕ → Name → Option ℕ
named_on None name = None
named_on (Some o) name = object_in (get heap_at_start o name)

abbrev pub named_along : Option ℕ → List Name → Option ℕ
named_along at [] = at
named_along at (name ∷ names) = named_along (named_on at name) names

abbrev pub found_at : Option ℕ → Option BuiltIn
found_at None = None
found_at (Some o) = which o

-- what each of these names is on that object
abbrev pub members : BuiltIn → List Name → List (Option BuiltIn)
members b names = map (λ name. found_at (named_on (Some (number_of b)) name)) names

-- what the `prototype` of each of these is
abbrev pub prototypes_on : List BuiltIn → List (Option BuiltIn)
prototypes_on bs = map (λ b. found_at (named_on (Some (number_of b)) (codes "prototype"))) bs

abbrev pub names_of : BuiltIn → List Name
names_of b = map (λ p. p.name) (properties_of heap_at_start (number_of b))

abbrev pub attributes_in_order : ℕ → List Attrs
attributes_in_order o = map (λ p. p.attributes) (properties_of heap_at_start o)

abbrev pub attributes_at : BuiltIn → List Attrs
attributes_at b = attributes_in_order (number_of b)

abbrev pub value_at : BuiltIn → Name → Option Slot
value_at b name = option_map (λ p. p.slot) (own_of heap_at_start (number_of b) name)

abbrev pub lengths : List BuiltIn → List (Option Slot)
lengths bs = map (λ b. value_at b (codes "length")) bs

-- so many numbers from the first on
abbrev pub numbers_from : ℕ → ℕ → List ℕ
numbers_from first zero = []
numbers_from first (suc count) = first ∷ numbers_from (suc first) count
