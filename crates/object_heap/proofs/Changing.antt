-- The heap after a property is put or deleted.
use Rattle.std.proofs.Common.{◌≡◌, ℕ, ◌<◌, Bool, true, false, List, length, get_or, Option, Some, None, Ok, Err, refl, sym, ap, subst, ◌∙◌}
use Rattle.std.specs.declared.alloc.AllocError.{AllocError}
use Rattle.std.specs.Prelude.{Result, OnOk, OnErr, option_map, slice_get, slice_set, if◌then◌else◌}
use Rattle.object_heap.specs.declared.object.Class.{Class}
use Rattle.object_heap.specs.Answers.{IsPlainName}
use Rattle.object_heap.specs.Names.{Name}
use Rattle.object_heap.specs.Objects.{Property, Object, Heap, own_in, own_of, properties_in, class_of, changed, with_properties}
use Rattle.object_heap.specs.Changes.{put_property, defined_at, with_property, is_deletable, can_delete, without, deleted_if, deleted}
use Rattle.object_heap.specs.Invariant.{HasLength, IsHeap}
use Rattle.object_heap.proofs.Puts.{heap_with, set_same}

-- ---- a property that is put, or no memory

pub tried : (heap now : Heap) (o : ℕ) (object new : Object) (ps : List Property) (shared : Name) (r : Result (Unit {0}) AllocError) → heap ≡ now → slice_get now o ≡ Some object → OnOk r (new ≡ with_properties object ps) → OnErr r (new ≡ object) → HasLength new.class new.properties → IsHeap heap shared → IsHeap (slice_set heap o new) shared
tried heap now o object new ps shared (Ok u) same at ok err has is = heap_with heap now o object new ps shared same at ok has is
tried heap now o object new ps shared (Err e) same at ok err has is = heap_with heap now o object new object.properties shared same at err has is

pub property_put : (heap now : Heap) (o : ℕ) (object new : Object) (p : Property) (r : Result (Unit {0}) AllocError) → heap ≡ now → slice_get now o ≡ Some object → OnOk r (new ≡ with_properties object (put_property object.properties p)) → OnOk r (slice_set heap o new ≡ with_property o p now)
property_put heap now o object new p (Ok u) same at e =
    ap (λ h. slice_set h o new) same ∙ ap (slice_set now o) e ∙ sym (ap (λ found. defined_at now o found p) at)
property_put heap now o object new p (Err x) same at e = tt

pub nothing_put : (heap now : Heap) (o : ℕ) (object new : Object) (r : Result (Unit {0}) AllocError) → heap ≡ now → slice_get now o ≡ Some object → OnErr r (new ≡ object) → OnErr r (slice_set heap o new ≡ now)
nothing_put heap now o object new (Ok u) same at e = tt
nothing_put heap now o object new (Err x) same at e = ap (λ h. slice_set h o new) same ∙ ap (slice_set now o) e ∙ set_same now o object at

pub class_at : (now : Heap) (o : ℕ) (object : Object) → slice_get now o ≡ Some object → class_of now o ≡ Some object.class
class_at now o object at = ap (option_map (λ x. x.class)) at

-- ---- a property that is deleted

pub deletable_at : (now : Heap) (o : ℕ) (object : Object) (name : Name) → slice_get now o ≡ Some object → can_delete now o name ≡ is_deletable (own_in object.properties name)
deletable_at now o object name at = ap (λ found. is_deletable (own_in (properties_in found) name)) at

pub deleted_at : (heap now : Heap) (o : ℕ) (object new : Object) (name : Name) (gone : Bool) → heap ≡ now → slice_get now o ≡ Some object → gone ≡ is_deletable (own_in object.properties name) → new ≡ with_properties object (if gone then without object.properties name else object.properties) → slice_set heap o new ≡ deleted o name now
deleted_at heap now o object new name gone same at is e =
    ap (λ h. slice_set h o new) same ∙ by gone e ∙ sym (ap (λ can. deleted_if can now o (slice_get now o) name) (deletable_at now o object name at ∙ sym is) ∙ ap (λ found. deleted_if gone now o found name) at)
  where
    by : (b : Bool) → new ≡ with_properties object (if b then without object.properties name else object.properties) → slice_set now o new ≡ deleted_if b now o (Some object) name
    by true f = ap (slice_set now o) f
    by false f = ap (slice_set now o) f ∙ set_same now o object at
