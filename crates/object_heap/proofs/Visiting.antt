-- The names that a `for-in` visits, object by object.
use Rattle.std.proofs.Common.{◌≡◌, ℕ, zero, suc, ◌+◌, ◌<◌, ◌≤◌, Bool, true, false, List, [], ◌∷◌, ◌++◌, length, take, drop, Option, Some, None, refl, sym, ap, subst, ◌∙◌, arith, add-one, append_assoc, append-nil}
use Rattle.std.proofs.lemmas.List.{drop_all}
use Rattle.std.specs.Prelude.{slice_get, is_some, if◌then◌else◌, ◌||◌}
use Rattle.object_heap.specs.Answers.{properties_along}
use Rattle.object_heap.specs.Get.{first_or}
use Rattle.object_heap.specs.Names.{Name, is_same_name}
use Rattle.object_heap.specs.Objects.{Property, Object, Heap, own_in, own_of, properties_in, properties_of, chain_of, chain_on}
use Rattle.object_heap.specs.Laws.{PrototypesComeBefore}
use Rattle.object_heap.specs.Visited.{Visit, is_unseen, keys_in, visits_in, visits_along}
use Rattle.object_heap.proofs.Chains.{its_chain}

-- ---- lists

pub drop_at : {A : Type 0} (xs : List A) (i : ℕ) (x : A) → slice_get xs i ≡ Some x → drop i xs ≡ x ∷ drop (i + 1) xs
drop_at [] i x e = absurd cc
drop_at (y ∷ ys) zero x e = cc
drop_at (y ∷ ys) (suc i) x e = drop_at ys i x e ∙ ap (λ n. x ∷ drop n ys) (add-one i) ∙ sym (ap (λ n. x ∷ drop n (y ∷ ys)) (add-one (suc i)))

more_by_one : {A : Type 0} (xs : List A) (i : ℕ) (x : A) (rest : List A) → drop i xs ≡ x ∷ rest → (take (suc i) xs ≡ take i xs ++ x ∷ []) × (drop (suc i) xs ≡ rest)
more_by_one [] zero x rest e = absurd cc
more_by_one [] (suc i) x rest e = absurd cc
more_by_one (y ∷ ys) zero x rest e = (cc, cc)
more_by_one (y ∷ ys) (suc i) x rest e = let h = more_by_one ys i x rest e in (ap (λ zs. y ∷ zs) h.0, h.1)

pub more_taken : {A : Type 0} (xs : List A) (i : ℕ) (x : A) (rest : List A) → drop i xs ≡ x ∷ rest → (take (i + 1) xs ≡ take i xs ++ x ∷ []) × (drop (i + 1) xs ≡ rest)
more_taken xs i x rest e = rw add-one (more_by_one xs i x rest e)

none_taken : {A : Type 0} (n : ℕ) → take {A = A} n [] ≡ []
none_taken zero = refl
none_taken (suc n) = refl

pub all_taken : {A : Type 0} (xs : List A) (i n : ℕ) → drop i xs ≡ [] → i ≤ n → take n xs ≡ take i xs
all_taken [] i n e le = none_taken n ∙ sym (none_taken i)
all_taken (y ∷ ys) zero n e le = absurd cc
all_taken (y ∷ ys) (suc i) zero e le = absurd (omega arith)
all_taken (y ∷ ys) (suc i) (suc n) e le = ap (λ zs. y ∷ zs) (all_taken ys i n e (omega arith))

-- ---- own properties of several objects

pub own_joined : (ps qs : List Property) (name : Name) → own_in (ps ++ qs) name ≡ first_or (own_in ps name) (own_in qs name)
own_joined [] qs name = refl
own_joined (p ∷ ps) qs name = by (is_same_name p.name name) (own_joined ps qs name)
  where
    by : (b : Bool) → own_in (ps ++ qs) name ≡ first_or (own_in ps name) (own_in qs name) → (if b then Some p else own_in (ps ++ qs) name) ≡ first_or (if b then Some p else own_in ps name) (own_in qs name)
    by true e = refl
    by false e = e

pub along_joined : (heap : Heap) (os us : List ℕ) → properties_along heap (os ++ us) ≡ properties_along heap os ++ properties_along heap us
along_joined heap [] us = refl
along_joined heap (o ∷ os) us = ap (λ ps. properties_of heap o ++ ps) (along_joined heap os us) ∙ sym (append_assoc (properties_of heap o) (properties_along heap os) (properties_along heap us))

neither : (a b : Option Property) → first_or a b ≡ None → (a ≡ None) × (b ≡ None)
neither None b e = (refl, e)
neither (Some p) b e = absurd cc

module _ (heap : Heap) (name : Name) where
  abbrev pub covered : List ℕ → Option Property
  covered os = own_in (properties_along heap os) name

  pub covered_more : (os : List ℕ) (o : ℕ) → covered os ≡ None → covered (os ++ o ∷ []) ≡ own_of heap o name
  covered_more os o none =
      ap (λ ps. own_in ps name) (along_joined heap os (o ∷ [])) ∙ own_joined (properties_along heap os) (properties_along heap (o ∷ [])) name ∙ ap (λ p. first_or p (covered (o ∷ []))) none ∙ alone
    where
      by : (p : Option Property) → first_or p None ≡ p
      by None = refl
      by (Some p) = refl

      alone : covered (o ∷ []) ≡ own_of heap o name
      alone = own_joined (properties_of heap o) [] name ∙ by (own_of heap o name)

  pub covered_by : (os : List ℕ) (i n o : ℕ) (rest : List ℕ) (p : Property) → drop i os ≡ o ∷ rest → covered (take i os) ≡ None → own_of heap o name ≡ Some p → i < n → covered (take n os) ≡ Some p
  covered_by os i zero o rest p e none found lt = absurd (omega arith)
  covered_by [] zero (suc n) o rest p e none found lt = absurd cc
  covered_by [] (suc i) (suc n) o rest p e none found lt = absurd cc
  covered_by (x ∷ os) zero (suc n) o rest p e none found lt =
      let same : x ≡ o = cc in
      own_joined (properties_of heap x) (properties_along heap (take n os)) name ∙ ap (λ q. first_or q (covered (take n os))) (ap (λ u. own_of heap u name) same ∙ found)
  covered_by (x ∷ os) (suc i) (suc n) o rest p e none found lt =
      let parts = neither (own_of heap x name) (covered (take i os)) (sym (own_joined (properties_of heap x) (properties_along heap (take i os)) name) ∙ none) in
      own_joined (properties_of heap x) (properties_along heap (take n os)) name ∙ ap (λ q. first_or q (covered (take n os))) parts.0 ∙ covered_by os i n o rest p e parts.1 found (omega arith)

nothing : {A : Type 0} (x : Option A) → is_some x ≡ false → x ≡ None
nothing None e = refl
nothing (Some y) e = absurd cc

something : {A : Type 0} (x : Option A) → is_some x ≡ true → (y : A) × (x ≡ Some y)
something None e = absurd cc
something (Some y) e = (y, refl)

module _ (heap : Heap) (before : PrototypesComeBefore heap) (os : List ℕ) (i o : ℕ) (object : Object) (name : Name) (at : slice_get heap o ≡ Some object) (left : drop i os ≡ chain_of heap o) where
  own_at : own_of heap o name ≡ own_in object.properties name
  own_at = ap (λ found. own_in (properties_in found) name) at

  pub chain_left : drop i os ≡ o ∷ chain_on object.prototype (chain_of heap)
  chain_left = left ∙ its_chain heap before o object at

  pub next_left : drop (i + 1) os ≡ chain_on object.prototype (chain_of heap)
  next_left = (more_taken os i o (chain_on object.prototype (chain_of heap)) chain_left).1

  pub next_taken : take (i + 1) os ≡ take i os ++ o ∷ []
  next_taken = (more_taken os i o (chain_on object.prototype (chain_of heap)) chain_left).0

  pub covered_here : (n : ℕ) → covered heap name (take i os) ≡ None → is_some (own_in object.properties name) ≡ true → i < n → is_some (covered heap name (take n os)) ≡ true
  covered_here n none found lt =
      let p = something (own_in object.properties name) found in
      ap is_some (covered_by heap name os i n o (chain_on object.prototype (chain_of heap)) p.0 chain_left none (own_at ∙ p.1) lt)

  pub not_covered_yet : covered heap name (take i os) ≡ None → is_some (own_in object.properties name) ≡ false → covered heap name (take (i + 1) os) ≡ None
  not_covered_yet none other =
      ap (covered heap name) next_taken ∙ covered_more heap name (take i os) o none ∙ own_at ∙ nothing (own_in object.properties name) other

-- ---- property by property

keys_joined : (p : Property) (ps : List Property) → keys_in (p ∷ ps) ≡ keys_in (p ∷ []) ++ keys_in ps
keys_joined p ps = by (is_unseen p)
  where
    by : (b : Bool) → (if b then keys_in ps else p.name ∷ keys_in ps) ≡ (if b then [] else p.name ∷ []) ++ keys_in ps
    by true = refl
    by false = refl

pub keys_step : (names after total : List Name) (ps : List Property) (i : ℕ) (p : Property) → slice_get ps i ≡ Some p → after ≡ names ++ keys_in (p ∷ []) → names ++ keys_in (drop i ps) ≡ total → after ++ keys_in (drop (i + 1) ps) ≡ total
keys_step names after total ps i p at e so_far =
    let rest = keys_in (drop (i + 1) ps) in
    ap (λ ns. ns ++ rest) e ∙ append_assoc names (keys_in (p ∷ [])) rest ∙ ap (λ ns. names ++ ns) (sym (keys_joined p (drop (i + 1) ps))) ∙ ap (λ qs. names ++ keys_in qs) (sym (drop_at ps i p at)) ∙ so_far

module _ (o : ℕ) (before : List Property) where
  visits_joined : (p : Property) (ps : List Property) → visits_in o before (p ∷ ps) ≡ visits_in o before (p ∷ []) ++ visits_in o before ps
  visits_joined p ps = by (is_unseen p || is_some (own_in before p.name))
    where
      by : (b : Bool) → (if b then visits_in o before ps else (o, p.name) ∷ visits_in o before ps) ≡ (if b then [] else (o, p.name) ∷ []) ++ visits_in o before ps
      by true = refl
      by false = refl

  pub visits_step : (visits after total : List Visit) (ps : List Property) (i : ℕ) (p : Property) → slice_get ps i ≡ Some p → after ≡ visits ++ visits_in o before (p ∷ []) → visits ++ visits_in o before (drop i ps) ≡ total → after ++ visits_in o before (drop (i + 1) ps) ≡ total
  visits_step visits after total ps i p at e so_far =
      let rest = visits_in o before (drop (i + 1) ps) in
      ap (λ vs. vs ++ rest) e ∙ append_assoc visits (visits_in o before (p ∷ [])) rest ∙ ap (λ vs. visits ++ vs) (sym (visits_joined p (drop (i + 1) ps))) ∙ ap (λ qs. visits ++ visits_in o before qs) (sym (drop_at ps i p at)) ∙ so_far

-- ---- object by object

module _ (heap : Heap) (before : PrototypesComeBefore heap) (os : List ℕ) (i o : ℕ) (object : Object) (at : slice_get heap o ≡ Some object) (left : drop i os ≡ chain_of heap o) where
  along_next : properties_along heap (take (i + 1) os) ≡ properties_along heap (take i os) ++ properties_of heap o
  along_next =
      ap (properties_along heap) (next_taken heap before os i o object [] at left) ∙ along_joined heap (take i os) (o ∷ []) ∙ ap (λ ps. properties_along heap (take i os) ++ ps) (append-nil (properties_of heap o))

  pub visits_next : (visits after total : List Visit) → after ≡ visits ++ visits_in o (properties_along heap (take i os)) (properties_of heap o) → visits ++ visits_along heap (properties_along heap (take i os)) (chain_of heap o) ≡ total
      → after ++ visits_along heap (properties_along heap (take (i + 1) os)) (chain_on object.prototype (chain_of heap)) ≡ total
  visits_next visits after total e so_far =
      let seen = properties_along heap (take i os) in
      let rest = chain_on object.prototype (chain_of heap) in
      let here = visits_in o seen (properties_of heap o) in
      ap (λ vs. vs ++ visits_along heap (properties_along heap (take (i + 1) os)) rest) e ∙ ap (λ ps. (visits ++ here) ++ visits_along heap ps rest) along_next ∙ append_assoc visits here (visits_along heap (seen ++ properties_of heap o) rest) ∙ sym (ap (λ us. visits ++ visits_along heap seen us) (its_chain heap before o object at)) ∙ so_far

pub visits_done : (heap : Heap) (o : ℕ) (object : Object) (seen : List Property) (visits total : List Visit) (i : ℕ) → slice_get heap o ≡ Some object → length object.properties ≤ i → visits ++ visits_in o seen (drop i object.properties) ≡ total ++ visits_in o seen object.properties → visits ≡ total ++ visits_in o seen (properties_of heap o)
visits_done heap o object seen visits total i at le e =
    sym (append-nil visits) ∙ ap (λ ps. visits ++ visits_in o seen ps) (sym (drop_all i object.properties le)) ∙ e ∙ sym (ap (λ found. total ++ visits_in o seen (properties_in found)) at)
