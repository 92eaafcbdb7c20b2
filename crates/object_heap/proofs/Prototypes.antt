-- An object's prototype was made before it.
use Rattle.std.proofs.Common.{◌≡◌, ℕ, zero, suc, ◌+◌, ◌<◌, Bool, true, false, List, [], ◌∷◌, ◌++◌, length}
use Rattle.std.proofs.Common.{Some, None, refl, ap, sym, ◌∙◌, ◌⊎◌, inl, inr, arith, subst, nat_lt}
use Rattle.std.specs.Prelude.{Option, ◌&&◌, slice_get, slice_set, unwrap_or, option_map}
use Rattle.std.proofs.lemmas.Bool.{ltb-true}
use Rattle.js_values.specs.declared.value.Value.{Value}
use Rattle.object_heap.specs.declared.object.Class.{Class}
use Rattle.object_heap.specs.Names.{Name}
use Rattle.object_heap.specs.Objects.{Slot, Holds, Shares, Property, Object, Heap, own_in, prototype_in, prototype_of, chain_on, chain_within, chain_of, changed, with_properties}
use Rattle.object_heap.specs.Get.{can_put}
use Rattle.object_heap.specs.Put.{put_by, put_own, put_if, done_or_bad, heap_after}
use Rattle.object_heap.specs.Changes.{made, defined_at, put_property, can_delete, deleted_if, without}
use Rattle.object_heap.specs.Start.{heap_at_start}
use Rattle.object_heap.specs.Laws.{PrototypesComeBefore, PrototypesStayBefore, IsThere}

none_some : {A : Type 0} {x : A} → None ≡ Some x → ⊥
none_some e = cc

some_one : {A : Type 0} {x y : A} → Some x ≡ Some y → x ≡ y
some_one {x = x} e = ap (λ o. unwrap_or o x) e

-- ---- at the start, by computing

abbrev is_below : ℕ → Option ℕ → Bool
is_below n None = true
is_below n (Some p) = nat_lt p n

abbrev go_down : ℕ → Heap → Bool
go_down n [] = true
go_down n (x ∷ xs) = is_below n x.prototype && go_down (suc n) xs

both : (a b : Bool) → (a && b) ≡ true → (a ≡ true) × (b ≡ true)
both true true e = (refl, refl)
both true false e = absurd cc
both false b e = absurd cc

below : (n p : ℕ) (o : Option ℕ) → is_below n o ≡ true → o ≡ Some p → p < n
below n p None h e = absurd (none_some e)
below n p (Some q) h e = subst (λ x. x < n) (some_one e) (ltb-true q n h)

down : (n : ℕ) (heap : Heap) → go_down n heap ≡ true → (o p : ℕ) → prototype_of heap o ≡ Some p → p < n + o
down n [] h o p e = absurd (none_some e)
down n (x ∷ xs) h zero p e = let lt = below n p x.prototype (both (is_below n x.prototype) (go_down (suc n) xs) h).0 e in omega (arith, lt)
down n (x ∷ xs) h (suc o) p e = let lt = down (suc n) xs (both (is_below n x.prototype) (go_down (suc n) xs) h).1 o p e in omega (arith, lt)

starts_down : go_down 0 heap_at_start ≡ true
starts_down = refl

pub at_first : PrototypesComeBefore heap_at_start
at_first o p e = let lt = down 0 heap_at_start starts_down o p e in omega (arith, lt)

-- ---- one more object

prototype_with : (heap : Heap) (new : Object) (o p : ℕ) → prototype_of (heap ++ new ∷ []) o ≡ Some p → (prototype_of heap o ≡ Some p) ⊎ ((o ≡ length heap) × (new.prototype ≡ Some p))
prototype_with [] new zero p e = inr (refl, e)
prototype_with [] new (suc o) p e = absurd (none_some e)
prototype_with (x ∷ xs) new zero p e = inl e
prototype_with (x ∷ xs) new (suc o) p e = further (prototype_with xs new o p e)
  where
    further : (prototype_of xs o ≡ Some p) ⊎ ((o ≡ length xs) × (new.prototype ≡ Some p)) → (prototype_of (x ∷ xs) (suc o) ≡ Some p) ⊎ ((suc o ≡ length (x ∷ xs)) × (new.prototype ≡ Some p))
    further (inl h) = inl h
    further (inr h) = inr (ap suc h.0, h.1)

there : (heap : Heap) (prototype : Option ℕ) (p : ℕ) → IsThere heap prototype → prototype ≡ Some p → p < length heap
there heap None p is e = absurd (none_some e)
there heap (Some o) p is e = subst (λ n. n < length heap) (some_one e) is

make_keeps : (heap : Heap) (class : Class) (prototype : Option ℕ) → IsThere heap prototype → PrototypesComeBefore heap → PrototypesComeBefore (made class prototype heap)
make_keeps heap class prototype is before o p e = by (prototype_with heap _ o p e)
  where
    by : (prototype_of heap o ≡ Some p) ⊎ ((o ≡ length heap) × (prototype ≡ Some p)) → p < o
    by (inl h) = before o p h
    by (inr h) = let lt = there heap prototype p is h.1 in let at = h.0 in omega (arith, lt, at)

-- ---- an object with other properties

prototype_set : (heap : Heap) (o : ℕ) (new : Object) (q : ℕ) → prototype_of heap o ≡ new.prototype → prototype_of (slice_set heap o new) q ≡ prototype_of heap q
prototype_set [] o new q e = refl
prototype_set (x ∷ xs) zero new zero e = sym e
prototype_set (x ∷ xs) zero new (suc q) e = refl
prototype_set (x ∷ xs) (suc o) new zero e = refl
prototype_set (x ∷ xs) (suc o) new (suc q) e = prototype_set xs o new q e

pub change_keeps : (heap : Heap) (o : ℕ) (object : Object) (properties : List Property) → slice_get heap o ≡ Some object → PrototypesComeBefore heap → PrototypesComeBefore (changed heap o object properties)
change_keeps heap o object properties e before q p h = before q p (sym (prototype_set heap o (with_properties object properties) q (ap prototype_in e)) ∙ h)

-- a write
done_keeps : (heap : Heap) (o : ℕ) (object : Object) (properties : Option (List Property)) → slice_get heap o ≡ Some object → PrototypesComeBefore heap → PrototypesComeBefore (heap_after heap (done_or_bad heap o object properties))
done_keeps heap o object None e before = before
done_keeps heap o object (Some properties) e before = change_keeps heap o object properties e before

own_keeps : (heap : Heap) (o : ℕ) (object : Object) (slot : Option Slot) (name : Name) (v : Value) → slice_get heap o ≡ Some object → PrototypesComeBefore heap → PrototypesComeBefore (heap_after heap (put_own heap o object slot name v))
own_keeps heap o object (Some (Shares scope place)) name v e before = before
own_keeps heap o object (Some (Holds old)) name v e before = done_keeps heap o object (put_by object.class object.properties name v) e before
own_keeps heap o object None name v e before = done_keeps heap o object (put_by object.class object.properties name v) e before

put_keeps : (heap : Heap) (o : ℕ) (name : Name) (v : Value) (can : Bool) (found : Option Object) → slice_get heap o ≡ found → PrototypesComeBefore heap → PrototypesComeBefore (heap_after heap (put_if can heap o found name v))
put_keeps heap o name v can None e before = before
put_keeps heap o name v false (Some object) e before = before
put_keeps heap o name v true (Some object) e before = own_keeps heap o object (option_map (λ p. p.slot) (own_in object.properties name)) name v e before

define_keeps : (heap : Heap) (o : ℕ) (new : Property) (found : Option Object) → slice_get heap o ≡ found → PrototypesComeBefore heap → PrototypesComeBefore (defined_at heap o found new)
define_keeps heap o new None e before = before
define_keeps heap o new (Some object) e before = change_keeps heap o object (put_property object.properties new) e before

delete_keeps : (heap : Heap) (o : ℕ) (name : Name) (can : Bool) (found : Option Object) → slice_get heap o ≡ found → PrototypesComeBefore heap → PrototypesComeBefore (deleted_if can heap o found name)
delete_keeps heap o name can None e before = before
delete_keeps heap o name false (Some object) e before = before
delete_keeps heap o name true (Some object) e before = change_keeps heap o object (without object.properties name) e before

pub stay_before : PrototypesStayBefore
stay_before = record {
  at_first = at_first;
  make = make_keeps;
  put = λ heap o name v. put_keeps heap o name v (can_put heap o name) (slice_get heap o) refl;
  define = λ heap o new. define_keeps heap o new (slice_get heap o) refl;
  delete = λ heap o name. delete_keeps heap o name (can_delete heap o name) (slice_get heap o) refl;
}

-- ---- the chain of an object

module _ (heap : Heap) (before : PrototypesComeBefore heap) where
  on_same : (f g o : ℕ) → ((p : ℕ) → p < o → chain_within heap f p ≡ chain_within heap g p) → (l : Option ℕ) → prototype_of heap o ≡ l → chain_on l (chain_within heap f) ≡ chain_on l (chain_within heap g)
  on_same f g o q None e = refl
  on_same f g o q (Some p) e = q p (before o p e)

  -- more objects than the number tells change nothing
  enough : (f g o : ℕ) → o < f → o < g → chain_within heap f o ≡ chain_within heap g o
  enough zero g o l m = absurd (omega arith)
  enough (suc f) zero o l m = absurd (omega arith)
  enough (suc f) (suc g) o l m = ap (λ chain. o ∷ chain) (on_same f g o (λ p lt. enough f g p (omega arith) (omega arith)) (prototype_of heap o) refl)

  on_chain : (o : ℕ) (l : Option ℕ) → prototype_of heap o ≡ l → chain_on l (chain_within heap o) ≡ chain_on l (chain_of heap)
  on_chain o None e = refl
  on_chain o (Some p) e = let lt = before o p e in enough o (suc p) p lt (omega arith)

  pub goes_up : (o : ℕ) → chain_of heap o ≡ o ∷ chain_on (prototype_of heap o) (chain_of heap)
  goes_up o = ap (λ chain. o ∷ chain) (on_chain o (prototype_of heap o) refl)
