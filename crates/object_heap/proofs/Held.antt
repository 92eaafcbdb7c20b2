-- What no property holds.
use Rattle.std.proofs.Common.{◌≡◌, ℕ, zero, suc, Bool, true, false, List, [], ◌∷◌, ◌++◌, Some, None, refl, ap, subst}
use Rattle.std.specs.Prelude.{Option, not, ◌&&◌, ◌||◌, if◌then◌else◌, nat_lt, slice_get, slice_set, unwrap_or, option_map}
use Rattle.js_values.specs.declared.value.Value.{Value}
use Rattle.object_heap.specs.declared.object.Class.{Class}
use Rattle.object_heap.specs.declared.object.Class.TheVariants as class
use Rattle.object_heap.specs.declared.built_in.BuiltIn.TheVariants as built
use Rattle.object_heap.specs.Names.{Name, is_same_name, length_name, index_of}
use Rattle.object_heap.specs.Objects.{Slot, Holds, Shares, Property, Object, Heap, own_in, own_of, properties_of, with_properties, chain_of}
use Rattle.object_heap.specs.Get.{can_put, first_or, met_along, met}
use Rattle.object_heap.specs.Arrays.{whole, put_value, length_in, length_value, is_between, cut, put_length, grown, put_in_array}
use Rattle.object_heap.specs.Put.{put_by, put_own, put_if, done_or_bad, heap_after}
use Rattle.object_heap.specs.Changes.{first_properties, new_object, put_property, defined_at, can_delete, without, deleted_if}
use Rattle.object_heap.specs.BuiltIns.{number_of}
use Rattle.object_heap.specs.Start.{heap_at_start}
use Rattle.object_heap.specs.Laws.{is_object, holds, is_held_in, IsNowhereHeld, NothingHolds}

none_some : {A : Type 0} {x : A} → None ≡ Some x → ⊥
none_some e = cc

some_one : {A : Type 0} {x y : A} → Some x ≡ Some y → x ≡ y
some_one {x = x} e = ap (λ o. unwrap_or o x) e

neither : (a b : Bool) → (a || b) ≡ false → (a ≡ false) × (b ≡ false)
neither true b e = absurd cc
neither false true e = absurd cc
neither false false e = (refl, refl)

nor : (a b : Bool) → a ≡ false → b ≡ false → (a || b) ≡ false
nor true b e h = absurd cc
nor false b e h = h

-- ---- at the start, by computing

abbrev is_free : ℕ → Heap → Bool
is_free f [] = true
is_free f (x ∷ xs) = not (is_held_in f x.properties) && is_free f xs

both : (a b : Bool) → (not a && b) ≡ true → (a ≡ false) × (b ≡ true)
both true b e = absurd cc
both false true e = (refl, refl)
both false false e = absurd cc

free : (f : ℕ) (heap : Heap) → is_free f heap ≡ true → IsNowhereHeld f heap
free f [] h o = refl
free f (x ∷ xs) h zero = (both (is_held_in f x.properties) (is_free f xs) h).0
free f (x ∷ xs) h (suc o) = free f xs (both (is_held_in f x.properties) (is_free f xs) h).1 o

at_first : IsNowhereHeld (number_of built.FunctionPrototype) heap_at_start
at_first = free 1 heap_at_start refl

-- ---- lists of properties

module _ (f : ℕ) where
  by_if : (b : Bool) (xs ys : List Property) → is_held_in f xs ≡ false → is_held_in f ys ≡ false → is_held_in f (if b then xs else ys) ≡ false
  by_if true xs ys h g = h
  by_if false xs ys h g = g

  first : (p : Property) (ps : List Property) → is_held_in f (p ∷ ps) ≡ false → holds f p.slot ≡ false
  first p ps h = (neither (holds f p.slot) (is_held_in f ps) h).0

  others : (p : Property) (ps : List Property) → is_held_in f (p ∷ ps) ≡ false → is_held_in f ps ≡ false
  others p ps h = (neither (holds f p.slot) (is_held_in f ps) h).1

  joined : (p : Property) (ps : List Property) → holds f p.slot ≡ false → is_held_in f ps ≡ false → is_held_in f (p ∷ ps) ≡ false
  joined p ps h g = nor (holds f p.slot) (is_held_in f ps) h g

  value_free : (ps : List Property) (name : Name) (v : Value) → is_object f v ≡ false → is_held_in f ps ≡ false → is_held_in f (put_value ps name v) ≡ false
  value_free [] name v e h = nor (is_object f v) false e refl
  value_free (p ∷ ps) name v e h = by_if (is_same_name p.name name) (record p { slot = Holds v } ∷ ps) (p ∷ put_value ps name v) (nor (is_object f v) (is_held_in f ps) e (others p ps h)) (joined p (put_value ps name v) (first p ps h) (value_free ps name v e (others p ps h)))

  cut_free : (new old : ℕ) (ps : List Property) → is_held_in f ps ≡ false → is_held_in f (cut new old ps) ≡ false
  cut_free new old [] h = refl
  cut_free new old (p ∷ ps) h = let rest = cut_free new old ps (others p ps h) in by_if (is_between new old (index_of p.name)) (cut new old ps) (p ∷ cut new old ps) rest (joined p (cut new old ps) (first p ps h) rest)

  property_free : (ps : List Property) (new : Property) → holds f new.slot ≡ false → is_held_in f ps ≡ false → is_held_in f (put_property ps new) ≡ false
  property_free [] new e h = joined new [] e refl
  property_free (p ∷ ps) new e h = by_if (is_same_name p.name new.name) (new ∷ ps) (p ∷ put_property ps new) (joined new ps e (others p ps h)) (joined p (put_property ps new) (first p ps h) (property_free ps new e (others p ps h)))

  without_free : (ps : List Property) (name : Name) → is_held_in f ps ≡ false → is_held_in f (without ps name) ≡ false
  without_free [] name h = refl
  without_free (p ∷ ps) name h = by_if (is_same_name p.name name) ps (p ∷ without ps name) (others p ps h) (joined p (without ps name) (first p ps h) (without_free ps name (others p ps h)))

  grown_free : (k : Option ℕ) (ps : List Property) → is_held_in f ps ≡ false → is_held_in f (grown k ps) ≡ false
  grown_free None ps h = h
  grown_free (Some k) ps h = by_if (nat_lt k (length_in ps)) ps (put_value ps length_name (whole (suc k))) h (value_free ps length_name (whole (suc k)) refl h)

  -- ---- writes

  abbrev AreFree : Option (List Property) → Type 0
  AreFree None = Unit {0}
  AreFree (Some ps) = is_held_in f ps ≡ false

  length_free : (ps : List Property) (n : Option ℕ) → is_held_in f ps ≡ false → AreFree (put_length ps n)
  length_free ps None h = tt
  length_free ps (Some n) h = value_free (cut n (length_in ps) ps) length_name (whole n) refl (cut_free n (length_in ps) ps h)

  if_free : (b : Bool) (x y : Option (List Property)) → AreFree x → AreFree y → AreFree (if b then x else y)
  if_free true x y h g = h
  if_free false x y h g = g

  array_free : (ps : List Property) (name : Name) (v : Value) → is_object f v ≡ false → is_held_in f ps ≡ false → AreFree (put_in_array ps name v)
  array_free ps name v e h = if_free (is_same_name name length_name) (put_length ps (length_value v)) (Some (grown (index_of name) (put_value ps name v))) (length_free ps (length_value v) h) (grown_free (index_of name) (put_value ps name v) (value_free ps name v e h))

  put_free : (c : Class) (ps : List Property) (name : Name) (v : Value) → is_object f v ≡ false → is_held_in f ps ≡ false → AreFree (put_by c ps name v)
  put_free class.Array ps name v e h = array_free ps name v e h
  put_free class.Plain ps name v e h = value_free ps name v e h
  put_free class.Function ps name v e h = value_free ps name v e h
  put_free class.Arguments ps name v e h = value_free ps name v e h
  put_free class.Error ps name v e h = value_free ps name v e h
  put_free class.Math ps name v e h = value_free ps name v e h

  -- ---- heaps

  set_free : (heap : Heap) (o : ℕ) (new : Object) (q : ℕ) → is_held_in f new.properties ≡ false → is_held_in f (properties_of heap q) ≡ false → is_held_in f (properties_of (slice_set heap o new) q) ≡ false
  set_free [] o new q e h = refl
  set_free (x ∷ xs) zero new zero e h = e
  set_free (x ∷ xs) zero new (suc q) e h = h
  set_free (x ∷ xs) (suc o) new zero e h = h
  set_free (x ∷ xs) (suc o) new (suc q) e h = set_free xs o new q e h

  new_free : (heap : Heap) (new : Object) (q : ℕ) → is_held_in f new.properties ≡ false → is_held_in f (properties_of heap q) ≡ false → is_held_in f (properties_of (heap ++ new ∷ []) q) ≡ false
  new_free [] new zero e h = e
  new_free [] new (suc q) e h = refl
  new_free (x ∷ xs) new zero e h = h
  new_free (x ∷ xs) new (suc q) e h = new_free xs new q e h

  first_free : (c : Class) → is_held_in f (first_properties c) ≡ false
  first_free class.Array = refl
  first_free class.Plain = refl
  first_free class.Function = refl
  first_free class.Arguments = refl
  first_free class.Error = refl
  first_free class.Math = refl

  own_properties : (heap : Heap) (o : ℕ) (object : Object) → IsNowhereHeld f heap → slice_get heap o ≡ Some object → is_held_in f object.properties ≡ false
  own_properties [] o object h e = absurd (none_some e)
  own_properties (x ∷ xs) zero object h e = subst (λ y. is_held_in f y.properties ≡ false) (some_one e) (h zero)
  own_properties (x ∷ xs) (suc o) object h e = own_properties xs o object (λ q. h (suc q)) e

  done_free : (heap : Heap) (o : ℕ) (object : Object) (ps : Option (List Property)) → AreFree ps → IsNowhereHeld f heap → IsNowhereHeld f (heap_after heap (done_or_bad heap o object ps))
  done_free heap o object None e h = h
  done_free heap o object (Some ps) e h = λ q. set_free heap o (with_properties object ps) q e (h q)

  own_free : (heap : Heap) (o : ℕ) (object : Object) (slot : Option Slot) (name : Name) (v : Value) → is_object f v ≡ false → is_held_in f object.properties ≡ false → IsNowhereHeld f heap → IsNowhereHeld f (heap_after heap (put_own heap o object slot name v))
  own_free heap o object (Some (Shares scope place)) name v e g h = h
  own_free heap o object (Some (Holds old)) name v e g h = done_free heap o object (put_by object.class object.properties name v) (put_free object.class object.properties name v e g) h
  own_free heap o object None name v e g h = done_free heap o object (put_by object.class object.properties name v) (put_free object.class object.properties name v e g) h

  put_keeps : (heap : Heap) (o : ℕ) (name : Name) (v : Value) (can : Bool) (found : Option Object) → is_object f v ≡ false → slice_get heap o ≡ found → IsNowhereHeld f heap → IsNowhereHeld f (heap_after heap (put_if can heap o found name v))
  put_keeps heap o name v can None e at h = h
  put_keeps heap o name v false (Some object) e at h = h
  put_keeps heap o name v true (Some object) e at h = own_free heap o object (option_map (λ p. p.slot) (own_in object.properties name)) name v e (own_properties heap o object h at) h

  define_keeps : (heap : Heap) (o : ℕ) (new : Property) (found : Option Object) → holds f new.slot ≡ false → slice_get heap o ≡ found → IsNowhereHeld f heap → IsNowhereHeld f (defined_at heap o found new)
  define_keeps heap o new None e at h = h
  define_keeps heap o new (Some object) e at h = λ q. set_free heap o (with_properties object (put_property object.properties new)) q (property_free object.properties new e (own_properties heap o object h at)) (h q)

  delete_keeps : (heap : Heap) (o : ℕ) (name : Name) (can : Bool) (found : Option Object) → slice_get heap o ≡ found → IsNowhereHeld f heap → IsNowhereHeld f (deleted_if can heap o found name)
  delete_keeps heap o name can None at h = h
  delete_keeps heap o name false (Some object) at h = h
  delete_keeps heap o name true (Some object) at h = λ q. set_free heap o (with_properties object (without object.properties name)) q (without_free object.properties name (own_properties heap o object h at)) (h q)

  -- ---- reads

  abbrev IsFree : Option Property → Type 0
  IsFree None = Unit {0}
  IsFree (Some p) = holds f p.slot ≡ false

  read_if : (b : Bool) (x y : Option Property) → IsFree x → IsFree y → IsFree (if b then x else y)
  read_if true x y h g = h
  read_if false x y h g = g

  own_read : (ps : List Property) (name : Name) → is_held_in f ps ≡ false → IsFree (own_in ps name)
  own_read [] name h = tt
  own_read (p ∷ ps) name h = read_if (is_same_name p.name name) (Some p) (own_in ps name) (first p ps h) (own_read ps name (others p ps h))

  first_read : (x y : Option Property) → IsFree x → IsFree y → IsFree (first_or x y)
  first_read None y h g = g
  first_read (Some p) y h g = h

  met_read : (heap : Heap) (os : List ℕ) (name : Name) → IsNowhereHeld f heap → IsFree (met_along heap os name)
  met_read heap [] name h = tt
  met_read heap (o ∷ os) name h = first_read (own_of heap o name) (met_along heap os name) (own_read (properties_of heap o) name (h o)) (met_read heap os name h)

  slot_read : (m : Option Property) (slot : Slot) → IsFree m → option_map (λ p. p.slot) m ≡ Some slot → holds f slot ≡ false
  slot_read None slot h e = absurd (none_some e)
  slot_read (Some p) slot h e = subst (λ s. holds f s ≡ false) (some_one e) h

pub nothing_holds : NothingHolds
nothing_holds = record {
  at_first = at_first;
  make = λ f heap c prototype h q. new_free f heap (new_object c prototype) q (first_free f c) (h q);
  put = λ f heap o name v e. put_keeps f heap o name v (can_put heap o name) (slice_get heap o) e refl;
  define = λ f heap o new e. define_keeps f heap o new (slice_get heap o) e refl;
  delete = λ f heap o name. delete_keeps f heap o name (can_delete heap o name) (slice_get heap o) refl;
  get = λ f heap o name slot h e. slot_read f (met heap o name) slot (met_read f heap (chain_of heap o) name h) e;
}
