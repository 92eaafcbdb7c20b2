-- The visits of a `for-in` on the stack.
use Rattle.std.proofs.Common.{◌≡◌, ◌<◌, ℕ, zero, suc, ◌-◌, ◌*◌, true, false, List, [], ◌∷◌, ◌++◌, length, map, refl, sym, ap, ◌∙◌, arith}
use Rattle.std.specs.Prelude.{if◌then◌else◌}
use Rattle.object_heap.specs.declared.visited.Visit as declared
use Rattle.object_heap.specs.Answers.{visit_shown}
use Rattle.object_heap.specs.Objects.{Heap}
use Rattle.object_heap.specs.Visited.{Visit}
use Rattle.js_values.specs.declared.value.Value.{Value}
use Rattle.js_machine.specs.Stacks.{below, without}
use Rattle.js_machine.specs.Visiting.{from_next, is_there, visit_on, visits_on, with_visits, without_visits}

-- ---- pushed

pub one_less : (xs ys : List declared.Visit) (x : declared.Visit) (vs : List Value) → xs ≡ ys ++ x ∷ [] → with_visits (map visit_shown xs) vs ≡ with_visits (map visit_shown ys) (with_visits (visit_shown x ∷ []) vs)
one_less xs ys x vs e = ap (λ zs. with_visits (map visit_shown zs) vs) e ∙ by ys
  where
    by : (ys : List declared.Visit) → with_visits (map visit_shown (ys ++ x ∷ [])) vs ≡ with_visits (map visit_shown ys) (with_visits (visit_shown x ∷ []) vs)
    by [] = refl
    by (y ∷ ys) = ap (λ more. Rattle.js_machine.specs.State.object_value y.object.0 ∷ Rattle.js_values.specs.declared.value.Value.TheVariants.Str y.name ∷ more) (by ys)

pub visits_back : (list : List Visit) (vs : List Value) → visits_on (length list) (with_visits list vs) ≡ list
visits_back [] vs = refl
visits_back (v ∷ list) vs = ap (λ more. v ∷ more) (visits_back list vs)

pub stack_back : (list : List Visit) (vs : List Value) → without_visits (length list) (with_visits list vs) ≡ vs
stack_back [] vs = refl
stack_back (v ∷ list) vs = stack_back list vs

-- ---- dropped

pub forgotten : (count : ℕ) (vs : List Value) → without (2 * count) vs ≡ without_visits count vs
forgotten zero vs = refl
forgotten (suc count) vs =
    let e : 2 * suc count ≡ suc (suc (2 * count)) = omega arith in
    ap (λ k. without k vs) e ∙ forgotten count (below (below vs))

-- ---- skipped

pub visits_more : (left : ℕ) (vs : List Value) → 0 < left → visits_on left vs ≡ visit_on vs ∷ visits_on (left - 1) (below (below vs))
visits_more zero vs h = absurd (omega (arith, h))
visits_more (suc left) vs h = let e : left ≡ suc left - 1 = omega arith in ap (λ k. visit_on vs ∷ visits_on k (below (below vs))) e

pub below_visits : (left : ℕ) (vs : List Value) → 0 < left → without_visits left vs ≡ without_visits (left - 1) (below (below vs))
below_visits zero vs h = absurd (omega (arith, h))
below_visits (suc left) vs h = let e : left ≡ suc left - 1 = omega arith in ap (λ k. without_visits k (below (below vs))) e

-- the next one is not there
pub one_skipped : (heap : Heap) (left : ℕ) (vs : List Value) → 0 < left → is_there heap (visit_on vs) ≡ false → from_next heap (visits_on left vs) ≡ from_next heap (visits_on (left - 1) (below (below vs)))
one_skipped heap left vs h e =
    ap (from_next heap) (visits_more left vs h)
    ∙ ap (λ b. if b then visit_on vs ∷ visits_on (left - 1) (below (below vs)) else from_next heap (visits_on (left - 1) (below (below vs)))) e

-- it is there
pub none_skipped : (heap : Heap) (left : ℕ) (vs : List Value) → 0 < left → is_there heap (visit_on vs) ≡ true → from_next heap (visits_on left vs) ≡ visits_on left vs
none_skipped heap left vs h e =
    ap (from_next heap) (visits_more left vs h)
    ∙ (ap (λ b. if b then visit_on vs ∷ visits_on (left - 1) (below (below vs)) else from_next heap (visits_on (left - 1) (below (below vs)))) e
    ∙ sym (visits_more left vs h))

-- none is left
pub none_left : (heap : Heap) (left : ℕ) (vs : List Value) → left ≡ 0 → from_next heap (visits_on left vs) ≡ visits_on left vs
none_left heap left vs e = ap (λ k. from_next heap (visits_on k vs)) e ∙ sym (ap (λ k. visits_on k vs) e)

pub ruleset push_laws = (one_less)

pub ruleset skip_laws = (one_skipped, none_skipped, none_left, below_visits)
