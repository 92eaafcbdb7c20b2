-- Steps of the walk along prototypes.
use Rattle.std.proofs.Common.{◌≡◌, ℕ, zero, suc, ◌<◌, ◌≤◌, Bool, true, false, List, [], ◌∷◌, length, Option, Some, None, nat_eq, refl, sym, ap, subst, ◌∙◌, arith}
use Rattle.std.specs.Prelude.{slice_get, ◌||◌}
use Rattle.std.specs.List.{list_any}
use Rattle.object_heap.specs.Names.{Name}
use Rattle.object_heap.specs.Objects.{Property, Object, Heap, own_in, chain_of, chain_on, prototype_in, properties_in, prototype_of, own_of}
use Rattle.object_heap.specs.Get.{first_or, met_along}
use Rattle.object_heap.specs.Laws.{IsThere, PrototypesComeBefore}
use Rattle.object_heap.proofs.Prototypes.{goes_up}

-- how far down the walk may still go
abbrev pub below : Option ℕ → ℕ
below None = 0
below (Some o) = suc o

module _ (heap : Heap) (before : PrototypesComeBefore heap) (o : ℕ) (object : Object) (at : slice_get heap o ≡ Some object) where
  pub its_chain : chain_of heap o ≡ o ∷ chain_on object.prototype (chain_of heap)
  its_chain = goes_up heap before o ∙ ap (λ found. o ∷ chain_on (prototype_in found) (chain_of heap)) at

  pub next_there : o < length heap → IsThere heap object.prototype
  next_there lt = by object.prototype refl
    where
      by : (p : Option ℕ) → object.prototype ≡ p → IsThere heap p
      by None e = tt
      by (Some p) e = let less = before o p (ap prototype_in at ∙ e) in omega arith

  pub next_below : below object.prototype < suc o
  next_below = by object.prototype refl
    where
      by : (p : Option ℕ) → object.prototype ≡ p → below p < suc o
      by None e = omega arith
      by (Some p) e = let less = before o p (ap prototype_in at ∙ e) in omega arith

  pub met_further : (name : Name) → own_in object.properties name ≡ None → met_along heap (chain_of heap o) name ≡ met_along heap (chain_on object.prototype (chain_of heap)) name
  met_further name none =
      let rest = met_along heap (chain_on object.prototype (chain_of heap)) name in
      ap (λ os. met_along heap os name) its_chain ∙ ap (λ found. first_or (own_in (properties_in found) name) rest) at ∙ ap (λ own. first_or own rest) none

  pub met_here : (name : Name) (p : Property) → own_in object.properties name ≡ Some p → met_along heap (chain_of heap o) name ≡ Some p
  met_here name p some =
      let rest = met_along heap (chain_on object.prototype (chain_of heap)) name in
      ap (λ os. met_along heap os name) its_chain ∙ ap (λ found. first_or (own_in (properties_in found) name) rest) at ∙ ap (λ own. first_or own rest) some

  pub among_further : (target : ℕ) → nat_eq o target ≡ false → list_any (λ p. nat_eq p target) (chain_of heap o) ≡ list_any (λ p. nat_eq p target) (chain_on object.prototype (chain_of heap))
  among_further target other =
      ap (list_any (λ p. nat_eq p target)) its_chain ∙ ap (λ b. b || list_any (λ p. nat_eq p target) (chain_on object.prototype (chain_of heap))) other

  pub among_here : (target : ℕ) → nat_eq o target ≡ true → list_any (λ p. nat_eq p target) (chain_of heap o) ≡ true
  among_here target same =
      ap (list_any (λ p. nat_eq p target)) its_chain ∙ ap (λ b. b || list_any (λ p. nat_eq p target) (chain_on object.prototype (chain_of heap))) same
