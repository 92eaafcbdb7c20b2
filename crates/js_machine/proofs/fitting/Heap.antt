-- What the calls of the heap give and leave.
use Rattle.std.proofs.Common.{◌≡◌, ℕ, zero, suc, ◌+◌, ◌<◌, Bool, true, false, ◌||◌, List, [], ◌∷◌, ◌++◌, length, refl, sym, ◌∙◌, ap, arith}
use Rattle.std.proofs.Common.{ne_eqb}
use Rattle.std.specs.Prelude.{Option, Some, None, option_map, is_some, slice_set, nat_lt}
use Rattle.js_values.specs.declared.value.Value.{Value}
use Rattle.object_heap.specs.declared.built_in.BuiltIn.TheVariants as built
use Rattle.object_heap.specs.declared.object.Attrs.{Attrs}
use Rattle.object_heap.specs.declared.object.Class.{Class}
use Rattle.object_heap.specs.declared.object.Class.TheVariants as class
use Rattle.object_heap.specs.Arrays.{put_value, length_in, length_value, is_between, cut, put_length, grown, put_in_array}
use Rattle.object_heap.specs.BuiltIns.{number_of}
use Rattle.object_heap.specs.Changes.{holding, put_property, defined_at, defined, can_delete, without, deleted_if, deleted}
use Rattle.object_heap.specs.Get.{can_put, first_or, met_along, get}
use Rattle.object_heap.specs.Laws.{PrototypesComeBefore, is_object, holds, is_held_in, IsNowhereHeld}
use Rattle.object_heap.specs.Names.{Name, is_same_name, length_name, index_of}
use Rattle.object_heap.specs.Objects.{Slot, Holds, Shares, Property, Object, Heap, own_in, prototype_in, prototype_of, properties_in, properties_of, with_properties, chain_on, chain_within, chain_of}
use Rattle.object_heap.specs.Put.{put_by, done_or_bad, put_own, put_if, heap_after, written}
use Rattle.object_heap.specs.Visited.{is_unseen, visits_in, visits_along, visits}
use Rattle.object_heap.proofs.Prototypes.{stay_before}
use Rattle.js_machine.specs.Reachable as fits
use Rattle.js_machine.specs.Reachable.{Each, IfAny, Counts, IsObject, IsInReach, ValueFits, SlotFits, PropertyFits, ObjectFits, HeapFits}
use Rattle.js_machine.proofs.fitting.Lists.{each_joined, each_got, each_set, each_if, any_if, any_mapped, length_set}
use Rattle.js_machine.proofs.fitting.Growth.{Grows, one_object, object_grows, later_content, later_contents}
use Rattle.js_machine.proofs.fitting.Family.{VisitFits}

-- ---- properties

abbrev PropertiesFit : Counts → List Property → Type 0
PropertiesFit w ps = Each (PropertyFits w) ps

nor : (a b : Bool) → a ≡ false → b ≡ false → (a || b) ≡ false
nor true b e h = absurd cc
nor false b e h = h

-- a heap that changes has as many objects, and they fit
record Kept (w : Counts) (heap after : Heap) : Type 0 where
  pub same : length after ≡ length heap
  pub each : Each (ObjectFits w) after

module _ {w : Counts} where
  own_in_fits : (name : Name) {ps : List Property} → PropertiesFit w ps → IfAny (PropertyFits w) (own_in ps name)
  own_in_fits name fits.empty = fits.nothing
  own_in_fits name (fits.more {x = p} h hs) = any_if (is_same_name p.name name) (fits.just h) (own_in_fits name hs)

  put_value_fits : (name : Name) {ps : List Property} {a : Value} → PropertiesFit w ps → ValueFits w a → PropertiesFit w (put_value ps name a)
  put_value_fits name fits.empty a = fits.more (record { slot = fits.holds a }) fits.empty
  put_value_fits name (fits.more {x = p} h hs) a = each_if (is_same_name p.name name) (fits.more (record { slot = fits.holds a }) hs) (fits.more h (put_value_fits name hs a))

  cut_fits : (new old : ℕ) {ps : List Property} → PropertiesFit w ps → PropertiesFit w (cut new old ps)
  cut_fits new old fits.empty = fits.empty
  cut_fits new old (fits.more {x = p} h hs) = let rest = cut_fits new old hs in each_if (is_between new old (index_of p.name)) rest (fits.more h rest)

  put_property_fits : {ps : List Property} {new : Property} → PropertiesFit w ps → PropertyFits w new → PropertiesFit w (put_property ps new)
  put_property_fits fits.empty n = fits.more n fits.empty
  put_property_fits {new = new} (fits.more {x = p} h hs) n = each_if (is_same_name p.name new.name) (fits.more n hs) (fits.more h (put_property_fits hs n))

  without_fits : (name : Name) {ps : List Property} → PropertiesFit w ps → PropertiesFit w (without ps name)
  without_fits name fits.empty = fits.empty
  without_fits name (fits.more {x = p} h hs) = each_if (is_same_name p.name name) hs (fits.more h (without_fits name hs))

  -- ---- writes

  grown_fits : (k : Option ℕ) {ps : List Property} → PropertiesFit w ps → PropertiesFit w (grown k ps)
  grown_fits None h = h
  grown_fits (Some k) {ps = ps} h = each_if (nat_lt k (length_in ps)) h (put_value_fits length_name h fits.num)

  put_length_fits : (n : Option ℕ) {ps : List Property} → PropertiesFit w ps → IfAny (Each (PropertyFits w)) (put_length ps n)
  put_length_fits None h = fits.nothing
  put_length_fits (Some n) {ps = ps} h = fits.just (put_value_fits length_name (cut_fits n (length_in ps) h) fits.num)

  put_in_array_fits : (name : Name) {ps : List Property} {a : Value} → PropertiesFit w ps → ValueFits w a → IfAny (Each (PropertyFits w)) (put_in_array ps name a)
  put_in_array_fits name {a = v} h a = any_if (is_same_name name length_name) (put_length_fits (length_value v) h) (fits.just (grown_fits (index_of name) (put_value_fits name h a)))

  put_by_fits : (c : Class) (name : Name) {ps : List Property} {a : Value} → PropertiesFit w ps → ValueFits w a → IfAny (Each (PropertyFits w)) (put_by c ps name a)
  put_by_fits class.Array name h a = put_in_array_fits name h a
  put_by_fits class.Plain name h a = fits.just (put_value_fits name h a)
  put_by_fits class.Function name h a = fits.just (put_value_fits name h a)
  put_by_fits class.Arguments name h a = fits.just (put_value_fits name h a)
  put_by_fits class.Error name h a = fits.just (put_value_fits name h a)
  put_by_fits class.Math name h a = fits.just (put_value_fits name h a)

  -- ---- heaps that change: vs many objects, which still fit

  stays_kept : {heap : Heap} → Each (ObjectFits w) heap → Kept w heap heap
  stays_kept h = record { same = refl; each = h }

  set_kept : (o : ℕ) {heap : Heap} {object : Object} {ps : List Property} → Each (ObjectFits w) heap → ObjectFits w object → PropertiesFit w ps → Kept w heap (slice_set heap o (with_properties object ps))
  set_kept o {heap = heap} h object ps = record { same = length_set heap o _; each = each_set h o (record { prototype = object.prototype; properties = ps }) }

  done_kept : (o : ℕ) {heap : Heap} {object : Object} {ps : Option (List Property)} → Each (ObjectFits w) heap → ObjectFits w object → IfAny (Each (PropertyFits w)) ps → Kept w heap (heap_after heap (done_or_bad heap o object ps))
  done_kept o h object fits.nothing = stays_kept h
  done_kept o h object (fits.just ps) = set_kept o h object ps

  put_own_kept : (slot : Option Slot) (o : ℕ) (name : Name) {heap : Heap} {object : Object} {a : Value} → Each (ObjectFits w) heap → ObjectFits w object → ValueFits w a → Kept w heap (heap_after heap (put_own heap o object slot name a))
  put_own_kept (Some (Shares scope place)) o name h object a = stays_kept h
  put_own_kept (Some (Holds old)) o name {object = object} h f a = done_kept o h f (put_by_fits object.class name f.properties a)
  put_own_kept None o name {object = object} h f a = done_kept o h f (put_by_fits object.class name f.properties a)

  put_if_kept : (can : Bool) (o : ℕ) (name : Name) {heap : Heap} {found : Option Object} {a : Value} → Each (ObjectFits w) heap → IfAny (ObjectFits w) found → ValueFits w a → Kept w heap (heap_after heap (put_if can heap o found name a))
  put_if_kept can o name h fits.nothing a = stays_kept h
  put_if_kept false o name h (fits.just f) a = stays_kept h
  put_if_kept true o name h (fits.just {x = object} f) a = put_own_kept (option_map (λ p. p.slot) (own_in object.properties name)) o name h f a

  define_kept : (o : ℕ) {heap : Heap} {found : Option Object} {new : Property} → Each (ObjectFits w) heap → IfAny (ObjectFits w) found → PropertyFits w new → Kept w heap (defined_at heap o found new)
  define_kept o h fits.nothing n = stays_kept h
  define_kept o h (fits.just f) n = set_kept o h f (put_property_fits f.properties n)

  delete_kept : (can : Bool) (o : ℕ) (name : Name) {heap : Heap} {found : Option Object} → Each (ObjectFits w) heap → IfAny (ObjectFits w) found → Kept w heap (deleted_if can heap o found name)
  delete_kept can o name h fits.nothing = stays_kept h
  delete_kept false o name h (fits.just f) = stays_kept h
  delete_kept true o name h (fits.just f) = set_kept o h f (without_fits name f.properties)

  pub put_heap : (o : ℕ) (name : Name) {heap : Heap} {a : Value} → HeapFits w heap → ValueFits w a → HeapFits w (written heap o name a)
  put_heap o name {heap = heap} {a = v} h a =
      let k = put_if_kept (can_put heap o name) o name h.each (each_got h.each o) a in
      record { count = h.count ∙ sym k.same; before = stay_before.put heap o name v h.before; each = k.each }

  pub define_heap : (o : ℕ) (name : Name) (attributes : Attrs) {heap : Heap} {a : Value} → HeapFits w heap → ValueFits w a → HeapFits w (defined o name a attributes heap)
  define_heap o name attributes {heap = heap} {a = v} h a =
      let k = define_kept o {new = holding name v attributes} h.each (each_got h.each o) (record { slot = fits.holds a }) in
      record { count = h.count ∙ sym k.same; before = stay_before.define heap o (holding name v attributes) h.before; each = k.each }

  pub delete_heap : (o : ℕ) (name : Name) {heap : Heap} → HeapFits w heap → HeapFits w (deleted o name heap)
  delete_heap o name {heap = heap} h =
      let k = delete_kept (can_delete heap o name) o name h.each (each_got h.each o) in
      record { count = h.count ∙ sym k.same; before = stay_before.delete heap o name h.before; each = k.each }

  -- ---- reads

  properties_fit : {o : Option Object} → IfAny (ObjectFits w) o → PropertiesFit w (properties_in o)
  properties_fit fits.nothing = fits.empty
  properties_fit (fits.just f) = f.properties

  first_or_fits : {x y : Option Property} → IfAny (PropertyFits w) x → IfAny (PropertyFits w) y → IfAny (PropertyFits w) (first_or x y)
  first_or_fits fits.nothing y = y
  first_or_fits (fits.just h) y = fits.just h

  met_along_fits : (os : List ℕ) (name : Name) {heap : Heap} → Each (ObjectFits w) heap → IfAny (PropertyFits w) (met_along heap os name)
  met_along_fits [] name h = fits.nothing
  met_along_fits (o ∷ os) name h = first_or_fits (own_in_fits name (properties_fit (each_got h o))) (met_along_fits os name h)

  pub get_slot_fits : (o : ℕ) (name : Name) {heap : Heap} → Each (ObjectFits w) heap → IfAny (SlotFits w) (get heap o name)
  get_slot_fits o name {heap = heap} h = any_mapped (λ p. p.slot) (λ p f. f.slot) (met_along_fits (chain_of heap o) name h)

  -- ---- chains

  prototype_fits : {o : Option Object} → IfAny (ObjectFits w) o → IfAny (IsObject w) (prototype_in o)
  prototype_fits fits.nothing = fits.nothing
  prototype_fits (fits.just f) = f.prototype

  chain_on_fits : {l : Option ℕ} {chain : ℕ → List ℕ} → IfAny (IsObject w) l → ((o : ℕ) → IsObject w o → Each (IsObject w) (chain o)) → Each (IsObject w) (chain_on l chain)
  chain_on_fits fits.nothing h = fits.empty
  chain_on_fits (fits.just {x = o} p) h = h o p

  chain_within_fits : (count : ℕ) {heap : Heap} → Each (ObjectFits w) heap → (o : ℕ) → IsObject w o → Each (IsObject w) (chain_within heap count o)
  chain_within_fits zero h o p = fits.empty
  chain_within_fits (suc count) h o p = fits.more p (chain_on_fits (prototype_fits (each_got h o)) (λ q m. chain_within_fits count h q m))

  -- ---- the names that a `for-in` visits

  visits_in_fit : (before : List Property) {o : ℕ} → IsObject w o → (ps : List Property) → Each (VisitFits w) (visits_in o before ps)
  visits_in_fit before o [] = fits.empty
  visits_in_fit before o (p ∷ ps) =
      let rest = visits_in_fit before o ps in
      each_if (is_unseen p || is_some (own_in before p.name)) rest (fits.more (record { giver = o }) rest)

  visits_along_fit : (before : List Property) (heap : Heap) {os : List ℕ} → Each (IsObject w) os → Each (VisitFits w) (visits_along heap before os)
  visits_along_fit before heap fits.empty = fits.empty
  visits_along_fit before heap (fits.more {x = o} p ps) = each_joined (visits_in_fit before p (properties_of heap o)) (visits_along_fit (before ++ properties_of heap o) heap ps)

  pub visits_fit : (o : ℕ) {heap : Heap} → Each (ObjectFits w) heap → IsObject w o → Each (VisitFits w) (visits heap o)
  visits_fit o {heap = heap} h p = visits_along_fit [] heap (chain_within_fits (suc o) h o p)

  -- ---- so no property holds Function.prototype

  pub is_not_it : {a : Value} → ValueFits w a → is_object (number_of built.FunctionPrototype) a ≡ false
  is_not_it fits.undefined = refl
  is_not_it fits.null = refl
  is_not_it fits.bool = refl
  is_not_it fits.num = refl
  is_not_it fits.str = refl
  is_not_it (fits.object {o = o} p) = ne_eqb o.0 (number_of built.FunctionPrototype) p.other

  slot_not_it : {slot : Slot} → SlotFits w slot → holds (number_of built.FunctionPrototype) slot ≡ false
  slot_not_it (fits.holds a) = is_not_it a
  slot_not_it (fits.shares s) = refl

  properties_free : {ps : List Property} → PropertiesFit w ps → is_held_in (number_of built.FunctionPrototype) ps ≡ false
  properties_free fits.empty = refl
  properties_free (fits.more {x = p} {xs = ps} h hs) = nor (holds (number_of built.FunctionPrototype) p.slot) (is_held_in (number_of built.FunctionPrototype) ps) (slot_not_it h.slot) (properties_free hs)

  pub not_held : {heap : Heap} → Each (ObjectFits w) heap → IsNowhereHeld (number_of built.FunctionPrototype) heap
  not_held h o = properties_free (properties_fit (each_got h o))

-- ---- one more object

pub length_more : {A : Type 0} (xs : List A) (x : A) → length (xs ++ x ∷ []) ≡ suc (length xs)
length_more [] x = refl
length_more (y ∷ ys) x = ap suc (length_more ys x)

prototype_more : (heap : Heap) (new : Object) (k o p : ℕ) → prototype_of (heap ++ new ∷ []) o ≡ Some p → ((q r : ℕ) → prototype_of heap q ≡ Some r → r < k + q) → ((r : ℕ) → new.prototype ≡ Some r → r < k + length heap) → p < k + o
prototype_more [] new k zero p e h n = n p e
prototype_more [] new k (suc o) p e h n = absurd cc
prototype_more (x ∷ xs) new k zero p e h n = h zero p e
prototype_more (x ∷ xs) new k (suc o) p e h n =
    let lt = prototype_more xs new (suc k) o p e (λ q r f. let l = h (suc q) r f in omega (arith, l)) (λ r f. let l = n r f in omega (arith, l)) in
    omega (arith, lt)

link_below : {w : Counts} {l : Option ℕ} → IfAny (IsObject w) l → (n : ℕ) → w.objects ≡ n → (r : ℕ) → l ≡ Some r → r < n
link_below fits.nothing n e r f = absurd cc
link_below {w = w} (fits.just {x = o} p) n e r f = let i : o ≡ r = some_one f in omega (arith, p.is, e, i)
  where
    some_one : {x y : ℕ} → Some x ≡ Some y → x ≡ y
    some_one h = cc

more_before : (heap : Heap) (new : Object) → PrototypesComeBefore heap → ((r : ℕ) → new.prototype ≡ Some r → r < length heap) → PrototypesComeBefore (heap ++ new ∷ [])
more_before heap new h n o p e =
    let lt = prototype_more heap new 0 o p e (λ q r f. let l = h q r f in omega (arith, l)) (λ r f. let l = n r f in omega (arith, l)) in
    omega (arith, lt)

pub make_heap : {w : Counts} {heap : Heap} {new : Object} → HeapFits w heap → ObjectFits w new → HeapFits (one_object w) (heap ++ new ∷ [])
make_heap {w = w} {heap = heap} {new = new} h n =
    let g = object_grows w in
    record {
      count = ap suc h.count ∙ sym (length_more heap new);
      before = more_before heap new h.before (link_below n.prototype (length heap) h.count);
      each = each_joined (later_contents g h.each) (fits.more (later_content g n) fits.empty);
    }

-- in a world with as many objects
pub same_heap : {w v : Counts} {heap : Heap} → Grows w v → v.objects ≡ w.objects → HeapFits w heap → HeapFits v heap
same_heap g e h = record { count = e ∙ h.count; before = h.before; each = later_contents g h.each }
