-- What is read of an object (ES3 8.6.2.1, 8.6.2.3, 8.6.2.4).
use Rattle.std.specs.Prelude.{ℕ, Bool, true, not, List, [], ◌∷◌, Option, Some, None}
use Rattle.std.specs.Prelude.{option_map, is_some}
use Rattle.object_heap.specs.Names.{Name}
use Rattle.object_heap.specs.Objects.{Slot, Property, Heap, own_of, chain_of}

-- the property of the first object of a chain that has it
abbrev pub first_or : Option Property → Option Property → Option Property
first_or (Some p) further = Some p
first_or None further = further

abbrev pub met_along : Heap → List ℕ → Name → Option Property
met_along heap [] name = None
met_along heap (o ∷ os) name = first_or (own_of heap o name) (met_along heap os name)

abbrev pub met : Heap → ℕ → Name → Option Property
met heap o name = met_along heap (chain_of heap o) name

-- [[Get]] (ES3 8.6.2.1): where the value is; None for undefined, since no property is met
abbrev pub get : Heap → ℕ → Name → Option Slot
get heap o name = option_map (λ p. p.slot) (met heap o name)

-- [[HasProperty]] (ES3 8.6.2.4)
abbrev pub has_property : Heap → ℕ → Name → Bool
has_property heap o name = is_some (met heap o name)

-- [[CanPut]] (ES3 8.6.2.3): what is met first, if anything, is not ReadOnly
abbrev pub is_writable : Option Property → Bool
is_writable None = true
is_writable (Some p) = not p.attributes.read_only

abbrev pub can_put : Heap → ℕ → Name → Bool
can_put heap o name = is_writable (met heap o name)
