-- What holds of the objects of the start.
use Rattle.std.proofs.Common.{◌≡◌, ℕ, zero, suc, Bool, true, false, List, [], ◌∷◌, Option, Some, None, refl, arith, lit≤}
use Rattle.std.specs.Prelude.{◌&&◌, slice_get}
use Rattle.object_heap.specs.declared.object.Class.{Class}
use Rattle.object_heap.specs.declared.object.Class.TheVariants as class
use Rattle.object_heap.specs.Names.{Name, is_same_name, length_name}
use Rattle.object_heap.specs.Objects.{Property, Heap}
use Rattle.object_heap.specs.Start.{heap_at_start}
use Rattle.object_heap.specs.Invariant.{holds_value, BeginsWithLength, HasLength, ObjectHasLength, ArraysHaveLength, IsHeap}
use Rattle.object_heap.proofs.Prototypes.{at_first}

begins_with_length : List Property → Bool
begins_with_length [] = false
begins_with_length (p ∷ ps) = is_same_name p.name length_name && (holds_value p.slot && p.attributes.fixed)

abbrev has_length : Class → List Property → Bool
has_length class.Array ps = begins_with_length ps
has_length class.Plain ps = true
has_length class.Function ps = true
has_length class.Arguments ps = true
has_length class.Error ps = true
has_length class.Math ps = true

abbrev have_length : Heap → Bool
have_length [] = true
have_length (x ∷ xs) = has_length x.class x.properties && have_length xs

both : (a b : Bool) → (a && b) ≡ true → (a ≡ true) × (b ≡ true)
both true true e = (refl, refl)
both true false e = absurd cc
both false b e = absurd cc

begins : (ps : List Property) → begins_with_length ps ≡ true → BeginsWithLength ps
unfolding begins_with_length
begins [] e = absurd cc
begins (p ∷ ps) e =
    let first = both (is_same_name p.name length_name) (holds_value p.slot && p.attributes.fixed) e in
    let second = both (holds_value p.slot) p.attributes.fixed first.1 in
    record { named = first.0; has_value = second.0; is_fixed = second.1 }

has : (c : Class) (ps : List Property) → has_length c ps ≡ true → HasLength c ps
has class.Array ps e = begins ps e
has class.Plain ps e = tt
has class.Function ps e = tt
has class.Arguments ps e = tt
has class.Error ps e = tt
has class.Math ps e = tt

have : (heap : Heap) → have_length heap ≡ true → ArraysHaveLength heap
have [] e o = tt
have (x ∷ xs) e zero = has x.class x.properties (both (has_length x.class x.properties) (have_length xs) e).0
have (x ∷ xs) e (suc o) = have xs (both (has_length x.class x.properties) (have_length xs) e).1 o

lengths_at_first : ArraysHaveLength heap_at_start
unfolding begins_with_length
lengths_at_first = have heap_at_start refl

pub is_heap_at_first : (shared : Name) → shared ≡ length_name → IsHeap heap_at_start shared
is_heap_at_first shared named = record {
  prototypes_before = at_first;
  arrays_have_length = lengths_at_first;
  numbered = lit≤ tt;
  at_start = lit≤ tt;
  global_plain = refl;
  host_plain = refl;
  named = named;
}
