-- The names that a `for-in` visits (ES3 12.6.4), in an order that is Doloto's own.
use Rattle.std.specs.Prelude.{ℕ, Bool, ◌||◌, if◌then◌else◌, List, [], ◌∷◌, ◌++◌, is_some}
use Rattle.object_heap.specs.Names.{Name, is_reserved}
use Rattle.object_heap.specs.Objects.{Property, Heap, own_in, own_of, properties_of, chain_of}

-- a property that no `for-in` visits: it is DontEnum, or of Doloto's own
abbrev pub is_unseen : Property → Bool
is_unseen p = p.attributes.hidden || is_reserved p.name

-- the own names that are not hidden, in the order in which they were made
abbrev pub keys_in : List Property → List Name
keys_in [] = []
keys_in (p ∷ ps) = if is_unseen p then keys_in ps else p.name ∷ keys_in ps

abbrev pub keys : Heap → ℕ → List Name
keys heap o = keys_in (properties_of heap o)

-- a name, and the object that gives it
abbrev pub Visit : Type 0
Visit = ℕ × Name

-- those of an object, but for names of which an object before it has a property
abbrev pub visits_in : ℕ → List Property → List Property → List Visit
visits_in o before [] = []
visits_in o before (p ∷ ps) =
    if is_unseen p || is_some (own_in before p.name) then visits_in o before ps
    else (o, p.name) ∷ visits_in o before ps

abbrev pub visits_along : Heap → List Property → List ℕ → List Visit
visits_along heap before [] = []
visits_along heap before (o ∷ os) =
    visits_in o before (properties_of heap o)
    ++ visits_along heap (before ++ properties_of heap o) os

-- the list that is made when the loop begins
abbrev pub visits : Heap → ℕ → List Visit
visits heap o = visits_along heap [] (chain_of heap o)

-- at its turn a name is skipped where its object has no such property then
abbrev pub is_still_there : Heap → Visit → Bool
is_still_there heap visit = is_some (own_of heap visit.0 visit.1)
