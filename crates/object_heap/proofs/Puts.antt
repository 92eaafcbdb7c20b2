-- A write to an object of the heap, by what its own write answers.
use Rattle.std.proofs.Common.{◌≡◌, ℕ, zero, suc, ◌<◌, ◌≤◌, Bool, true, false, List, [], ◌∷◌, length, get_or, Option, Some, None, Ok, Err, refl, sym, ap, subst, ◌∙◌, arith, nat_lt}
use Rattle.std.proofs.lemmas.Bool.{ltb-true}
use Rattle.std.specs.Prelude.{Result, slice_get, slice_set, option_map, not, if◌then◌else◌}
use Rattle.std.proofs.lemmas.Option.{slice_get_read}
use Rattle.js_values.specs.declared.value.Value.{Value}
use Rattle.object_heap.specs.declared.entry.Written.{Written}
use Rattle.object_heap.specs.declared.entry.Written.TheVariants as written
use Rattle.object_heap.specs.declared.answer.HeapError.{HeapError}
use Rattle.object_heap.specs.declared.answer.HeapError.TheVariants as error
use Rattle.object_heap.specs.declared.object.Class.{Class}
use Rattle.object_heap.specs.declared.object.Class.TheVariants as class
use Rattle.object_heap.specs.Names.{Name, is_same_name, length_name, index_of}
use Rattle.object_heap.specs.Arrays.{no_attributes, put_value, length_value, put_length, grown}
use Rattle.object_heap.specs.Changes.{holding, put_property}
use Rattle.object_heap.proofs.Tables.{same_name}
use Rattle.object_heap.specs.Objects.{Slot, Holds, Shares, Property, Object, Heap, own_in, own_of, properties_in, class_of, prototype_of, with_properties, chain_of, chain_on}
use Rattle.object_heap.specs.Get.{can_put, first_or, met, met_along, is_writable}
use Rattle.object_heap.specs.Put.{Put, Done, Ignored, Shared, BadLength, put, put_by, put_if, put_own, done_or_bad}
use Rattle.object_heap.specs.Laws.{PrototypesComeBefore}
use Rattle.object_heap.specs.Invariant.{HasLength, BeginsWithLength, ObjectHasLength, ArraysHaveLength, IsHeap}
use Rattle.object_heap.specs.Writes.{answer_of, answer_by, after_of, own_answer, own_after, added}
use Rattle.object_heap.proofs.Prototypes.{change_keeps, goes_up}
use Rattle.object_heap.proofs.Chains.{met_here}

-- ---- the heap with another object

length_set : (heap : Heap) (o : ℕ) (new : Object) → length (slice_set heap o new) ≡ length heap
length_set [] o new = refl
length_set (x ∷ xs) zero new = refl
length_set (x ∷ xs) (suc o) new = ap suc (length_set xs o new)

lengths_set : (heap : Heap) (o : ℕ) (new : Object) (q : ℕ) → HasLength new.class new.properties → ObjectHasLength (slice_get heap q) → ObjectHasLength (slice_get (slice_set heap o new) q)
lengths_set [] o new q h g = g
lengths_set (x ∷ xs) zero new zero h g = h
lengths_set (x ∷ xs) zero new (suc q) h g = g
lengths_set (x ∷ xs) (suc o) new zero h g = g
lengths_set (x ∷ xs) (suc o) new (suc q) h g = lengths_set xs o new q h g

class_kept : (heap : Heap) (o q : ℕ) (object : Object) (ps : List Property) → slice_get heap o ≡ Some object → class_of (slice_set heap o (with_properties object ps)) q ≡ class_of heap q
class_kept [] o q object ps at = refl
class_kept (x ∷ xs) zero zero object ps at = let f : x ≡ object = cc in sym (ap (λ y. Some y.class) f)
class_kept (x ∷ xs) zero (suc q) object ps at = refl
class_kept (x ∷ xs) (suc o) zero object ps at = refl
class_kept (x ∷ xs) (suc o) (suc q) object ps at = class_kept xs o q object ps at

pub heap_changed : (heap : Heap) (o : ℕ) (object : Object) (ps : List Property) (shared : Name) → slice_get heap o ≡ Some object → HasLength object.class ps → IsHeap heap shared → IsHeap (slice_set heap o (with_properties object ps)) shared
heap_changed heap o object ps shared at h is = record {
  prototypes_before = change_keeps heap o object ps at is.prototypes_before;
  arrays_have_length = λ q. lengths_set heap o (with_properties object ps) q h (is.arrays_have_length q);
  numbered = rw (length_set heap o (with_properties object ps)) is.numbered;
  at_start = rw (length_set heap o (with_properties object ps)) is.at_start;
  global_plain = class_kept heap o _ object ps at ∙ is.global_plain;
  host_plain = class_kept heap o _ object ps at ∙ is.host_plain;
  named = is.named;
}

-- the same of what a call left of the object
pub heap_with : (heap now : Heap) (o : ℕ) (object new : Object) (ps : List Property) (shared : Name) → heap ≡ now → slice_get now o ≡ Some object → new ≡ with_properties object ps → HasLength new.class new.properties → IsHeap heap shared → IsHeap (slice_set heap o new) shared
heap_with heap now o object new ps shared same at e has is =
    let P : Object → Type 0 = λ x. IsHeap (slice_set heap o x) shared in
    let Q : Object → Type 0 = λ x. HasLength x.class x.properties in
    subst P (sym e) (heap_changed heap o object ps shared (ap (λ h. slice_get h o) same ∙ at) (subst Q e has) is)

pub has_length_at : (heap : Heap) (o : ℕ) (object : Object) → slice_get heap o ≡ Some object → ArraysHaveLength heap → HasLength object.class object.properties
has_length_at heap o object at arrays = subst ObjectHasLength at (arrays o)

pub set_same : (heap : Heap) (o : ℕ) (object : Object) → slice_get heap o ≡ Some object → slice_set heap o object ≡ heap
set_same [] o object at = refl
set_same (x ∷ xs) zero object at = cc
set_same (x ∷ xs) (suc o) object at = ap (λ ys. x ∷ ys) (set_same xs o object at)

-- ---- a property that is new

absent_value : (ps : List Property) (name : Name) (v : Value) → own_in ps name ≡ None → put_value ps name v ≡ put_property ps (holding name v no_attributes)
absent_value [] name v e = refl
absent_value (p ∷ ps) name v e = by (is_same_name p.name name) e (λ rest. ap (λ qs. p ∷ qs) (absent_value ps name v rest))
  where
    by : (b : Bool) → (if b then Some p else own_in ps name) ≡ None → (own_in ps name ≡ None → p ∷ put_value ps name v ≡ p ∷ put_property ps (holding name v no_attributes))
        → (if b then record p { slot = Holds v } ∷ ps else p ∷ put_value ps name v) ≡ (if b then holding name v no_attributes ∷ ps else p ∷ put_property ps (holding name v no_attributes))
    by true e rest = absurd cc
    by false e rest = rest e

-- an array has a `length`, so the name of a property that it has not is another
other_name : (ps : List Property) (name : Name) → BeginsWithLength ps → own_in ps name ≡ None → is_same_name name length_name ≡ false
other_name [] name h e = absurd h
other_name (p ∷ ps) name h e = by (is_same_name name length_name) refl
  where
    by : (b : Bool) → is_same_name name length_name ≡ b → b ≡ false
    by false same = refl
    by true same = let found : is_same_name p.name name ≡ true = subst (λ n. is_same_name p.name n ≡ true) (sym (same_name name length_name same)) h.named in let none : (if is_same_name p.name name then Some p else own_in ps name) ≡ None = e in let wrong : Some p ≡ None = rw found at none in absurd cc

pub added_by : (c : Class) (ps : List Property) (name : Name) (v : Value) → HasLength c ps → own_in ps name ≡ None → put_by c ps name v ≡ Some (added c ps name v)
added_by class.Array ps name v h e =
    ap (λ b. if b then put_length ps (length_value v) else Some (grown (index_of name) (put_value ps name v))) (other_name ps name h e) ∙ ap (λ qs. Some (grown (index_of name) qs)) (absent_value ps name v e)
added_by class.Plain ps name v h e = ap Some (absent_value ps name v e)
added_by class.Function ps name v h e = ap Some (absent_value ps name v e)
added_by class.Arguments ps name v h e = ap Some (absent_value ps name v e)
added_by class.Error ps name v h e = ap Some (absent_value ps name v e)
added_by class.Math ps name v h e = ap Some (absent_value ps name v e)

-- ---- the parts of a write

module _ (heap : Heap) (o : ℕ) (object : Object) where
  abbrev put_in_parts : Bool → Option Slot → Option (List Property) → Put
  put_in_parts false own after = Ignored
  put_in_parts true (Some (Shares scope place)) after = Shared scope place
  put_in_parts true (Some (Holds old)) after = done_or_bad heap o object after
  put_in_parts true None after = done_or_bad heap o object after

-- what a write does, by what the object's own write answers
module _ (heap : Heap) (o : ℕ) (object : Object) (name : Name) (v : Value) where
  abbrev pub PutAs : Result Written HeapError → Type 0
  PutAs (Ok written.Done) = put heap o name v ≡ Done (slice_set heap o (with_properties object (own_after object name v)))
  PutAs (Ok written.ReadOnly) = (put heap o name v ≡ Ignored) × (own_after object name v ≡ object.properties)
  PutAs (Ok (written.Shared scope place)) = (put heap o name v ≡ Shared scope place) × (own_after object name v ≡ object.properties)
  PutAs (Ok (written.Absent w)) = (own_in object.properties name ≡ None) × (w ≡ v) × (own_after object name v ≡ object.properties)
  PutAs (Err e) = (put heap o name v ≡ BadLength) × (e ≡ error.BadLength) × (own_after object name v ≡ object.properties)

module _ (heap : Heap) (before : PrototypesComeBefore heap) (o : ℕ) (object : Object) (at : slice_get heap o ≡ Some object) (name : Name) (v : Value) where
  slot_by : (can : Bool) (own : Option Slot) → put_own heap o object own name v ≡ put_in_parts heap o object true own (put_by object.class object.properties name v)
  slot_by can None = refl
  slot_by can (Some (Holds old)) = refl
  slot_by can (Some (Shares scope place)) = refl

  can_by : (can : Bool) → put_if can heap o (Some object) name v ≡ put_in_parts heap o object can (option_map (λ p. p.slot) (own_in object.properties name)) (put_by object.class object.properties name v)
  can_by false = refl
  can_by true = slot_by true (option_map (λ p. p.slot) (own_in object.properties name))

  in_parts : (can : Bool) (own : Option Property) (after : Option (List Property)) → can_put heap o name ≡ can → own_in object.properties name ≡ own → put_by object.class object.properties name v ≡ after → put heap o name v ≡ put_in_parts heap o object can (option_map (λ p. p.slot) own) after
  in_parts can own after c e f =
      ap (λ found. put_if (can_put heap o name) heap o found name v) at ∙ can_by (can_put heap o name) ∙ ap (λ b. put_in_parts heap o object b (option_map (λ p. p.slot) (own_in object.properties name)) (put_by object.class object.properties name v)) c ∙ ap (λ p. put_in_parts heap o object can (option_map (λ q. q.slot) p) (put_by object.class object.properties name v)) e ∙ ap (put_in_parts heap o object can (option_map (λ p. p.slot) own)) f

  after_is : (own : Option Property) (after : Option (List Property)) → own_in object.properties name ≡ own → put_by object.class object.properties name v ≡ after → own_after object name v ≡ after_of (answer_by own after v) after object.properties
  after_is own after e f =
      ap (λ p. after_of (answer_by p (put_by object.class object.properties name v) v) (put_by object.class object.properties name v) object.properties) e ∙ ap (λ ps. after_of (answer_by own ps v) ps object.properties) f

  own_some : (read_only : Bool) (slot : Slot) (after : Option (List Property))
      → (put heap o name v ≡ put_in_parts heap o object (not read_only) (Some slot) after) → own_after object name v ≡ after_of (answer_of read_only slot after) after object.properties → PutAs heap o object name v (answer_of read_only slot after)
  own_some true slot after e g = (e, g)
  own_some false (Shares scope place) after e g = (e, g)
  own_some false (Holds old) None e g = (e, refl, g)
  own_some false (Holds old) (Some ps) e g = e ∙ ap (λ qs. Done (slice_set heap o (with_properties object qs))) (sym g)

  own_put : (own : Option Property) (after : Option (List Property)) → own_in object.properties name ≡ own → put_by object.class object.properties name v ≡ after → PutAs heap o object name v (answer_by own after v)
  own_put None after e f = (e, refl, after_is None after e f)
  own_put (Some p) after e f =
      let can : can_put heap o name ≡ not p.attributes.read_only = ap is_writable (met_here heap before o object at name p e) in
      own_some p.attributes.read_only p.slot after (in_parts (not p.attributes.read_only) (Some p) after can e f) (after_is (Some p) after e f)

  pub put_as : (r : Result Written HeapError) → r ≡ own_answer object name v → PutAs heap o object name v r
  put_as r e = subst (PutAs heap o object name v) (sym e) (own_put (own_in object.properties name) (put_by object.class object.properties name v) refl refl)

-- ---- where the object has no such property

module _ (heap : Heap) (before : PrototypesComeBefore heap) (o : ℕ) (name : Name) (v : Value) (none : own_of heap o name ≡ None) where
  abbrev pub further : Bool
  further = is_writable (met_along heap (chain_on (prototype_of heap o) (chain_of heap)) name)

  can_further : can_put heap o name ≡ further
  can_further =
      let rest = met_along heap (chain_on (prototype_of heap o) (chain_of heap)) name in
      ap (λ os. is_writable (met_along heap os name)) (goes_up heap before o) ∙ ap (λ own. is_writable (first_or own rest)) none

  pub new_ignored : further ≡ false → put heap o name v ≡ Ignored
  new_ignored cannot = ap (λ can. put_if can heap o (slice_get heap o) name v) (can_further ∙ cannot) ∙ by (slice_get heap o)
    where
      by : (found : Option Object) → put_if false heap o found name v ≡ Ignored
      by None = refl
      by (Some object) = refl

  pub new_done : (object : Object) → slice_get heap o ≡ Some object → HasLength object.class object.properties → further ≡ true → put heap o name v ≡ Done (slice_set heap o (with_properties object (added object.class object.properties name v)))
  new_done object at has can_be =
      let own : own_in object.properties name ≡ None = ap (λ found. own_in (properties_in found) name) (sym at) ∙ none in
      in_parts heap before o object at name v true None (Some (added object.class object.properties name v)) (can_further ∙ can_be) own (added_by object.class object.properties name v has own)

-- ---- as the code reads it

pub is_there : (heap : Heap) (o : ℕ) (there : Bool) → there ≡ nat_lt o (length heap) → there ≡ true → o < length heap
is_there heap o there tested is = ltb-true o (length heap) (sym tested ∙ is)

pub read_at : (heap now : Heap) (o : ℕ) (object : Object) → heap ≡ now → o < length now → object ≡ get_or heap o object → slice_get now o ≡ Some object
read_at heap now o object e lt is = slice_get_read now (length now) o object refl lt (is ∙ ap (λ h. get_or h o object) e)

pub further_by : (heap s t : Heap) (o : ℕ) (p : Option ℕ) (name : Name) (b : Bool) → s ≡ heap → t ≡ heap → p ≡ prototype_of s o → b ≡ is_writable (met_along t (chain_on p (chain_of t)) name) → is_writable (met_along heap (chain_on (prototype_of heap o) (chain_of heap)) name) ≡ b
further_by heap s t o p name b e f g h = sym (h ∙ ap (λ x. is_writable (met_along x (chain_on p (chain_of x)) name)) f ∙ ap (λ q. is_writable (met_along heap (chain_on q (chain_of heap)) name)) (g ∙ ap (λ x. prototype_of x o) e))

-- the object is as it was, so the heap is
pub kept_heap : (heap now : Heap) (o : ℕ) (object new : Object) (ps : List Property) → heap ≡ now → slice_get now o ≡ Some object → new ≡ with_properties object ps → ps ≡ object.properties → slice_set heap o new ≡ now
kept_heap heap now o object new ps same at e f =
    ap (λ h. slice_set h o new) same ∙ ap (slice_set now o) (e ∙ ap (with_properties object) f) ∙ set_same now o object at

pub put_seen : (heap now : Heap) (o : ℕ) (object : Object) (name : Name) (v : Value) (shared : Name) (answered r : Result Written HeapError) → heap ≡ now → IsHeap heap shared → o < length now → object ≡ get_or heap o object → answered ≡ own_answer object name v → answered ≡ r → PutAs now o object name v r
put_seen heap now o object name v shared answered r same is lt at e f =
    put_as now (subst PrototypesComeBefore same is.prototypes_before) o object (read_at heap now o object same lt at) name v r (sym f ∙ e)
