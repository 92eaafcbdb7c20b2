-- What the steps of a write do to the properties of an object.
use Rattle.std.proofs.Common.{◌≡◌, ℕ, suc, ◌≤◌, ◌<◌, Bool, true, false, List, [], ◌∷◌, Option, Some, None, Ok, Err, nat_lt, refl, sym, ap, subst, ◌∙◌, arith}
use Rattle.std.specs.declared.alloc.AllocError.{AllocError}
use Rattle.std.specs.Prelude.{Result, OnOk, OnErr, ◌&&◌, nat_le, if◌then◌else◌}
use Rattle.std.proofs.lemmas.Bool.Decides.{nat_tests}
use Rattle.object_heap.specs.Names.{Name, is_same_name, length_name, index_of}
use Rattle.object_heap.specs.Objects.{Property, own_in}
use Rattle.object_heap.specs.Arrays.{is_between, cut}
use Rattle.object_heap.specs.Answers.{IsPlainName}
use Rattle.object_heap.specs.Changes.{put_property, without}
use Rattle.object_heap.specs.Invariant.{IsLength, BeginsWithLength, HasLength}
use Rattle.object_heap.specs.declared.object.Class.{Class}
use Rattle.object_heap.specs.declared.object.Class.TheVariants as class
use Rattle.object_heap.proofs.Tables.{same_name, same_flip}

none_between : (new old : ℕ) (k : Option ℕ) → old ≤ new → is_between new old k ≡ false
none_between new old None le = refl
none_between new old (Some k) le = grind (arith, nat_tests)

pub nothing_cut : (new old : ℕ) (ps : List Property) → old ≤ new → cut new old ps ≡ ps
nothing_cut new old [] le = refl
nothing_cut new old (p ∷ ps) le = subst (λ b. (if b then cut new old ps else p ∷ cut new old ps) ≡ p ∷ ps) (sym (none_between new old (index_of p.name) le)) (ap (λ qs. p ∷ qs) (nothing_cut new old ps le))

pub absent_stays : (ps : List Property) (name : Name) → own_in ps name ≡ None → without ps name ≡ ps
absent_stays [] name e = refl
absent_stays (p ∷ ps) name e = by (is_same_name p.name name) e (λ rest. ap (λ qs. p ∷ qs) (absent_stays ps name rest))
  where
    by : (b : Bool) → (if b then Some p else own_in ps name) ≡ None → (own_in ps name ≡ None → p ∷ without ps name ≡ p ∷ ps) → (if b then ps else p ∷ without ps name) ≡ p ∷ ps
    by true e rest = absurd cc
    by false e rest = rest e

-- ---- the `length` of an array stays

first_stays : (p : Property) (ps : List Property) (new : Property) → IsLength p → is_same_name new.name length_name ≡ false → put_property (p ∷ ps) new ≡ p ∷ put_property ps new
first_stays p ps new h e =
    let other : is_same_name p.name new.name ≡ false = ap (λ n. is_same_name n new.name) (same_name p.name length_name h.named) ∙ same_flip length_name new.name ∙ e in
    ap (λ b. if b then new ∷ ps else p ∷ put_property ps new) other

begins_still : (ps : List Property) (new : Property) → BeginsWithLength ps → is_same_name new.name length_name ≡ false → BeginsWithLength (put_property ps new)
begins_still [] new h e = absurd h
begins_still (p ∷ ps) new h e = subst BeginsWithLength (sym (first_stays p ps new h e)) h

pub has_length_still : (c : Class) (ps : List Property) (new : Property) → HasLength c ps → IsPlainName (Some c) new.name → HasLength c (put_property ps new)
has_length_still class.Array ps new h e = begins_still ps new h e.0
has_length_still class.Plain ps new h e = tt
has_length_still class.Function ps new h e = tt
has_length_still class.Arguments ps new h e = tt
has_length_still class.Error ps new h e = tt
has_length_still class.Math ps new h e = tt

-- also where there was no memory
pub has_length_tried : (c : Class) (ps after : List Property) (new : Property) (r : Result (Unit {0}) AllocError) → HasLength c ps → IsPlainName (Some c) new.name → OnOk r (after ≡ put_property ps new) → OnErr r (after ≡ ps) → HasLength c after
has_length_tried c ps after new (Ok u) h e ok err = subst (HasLength c) (sym ok) (has_length_still c ps new h e)
has_length_tried c ps after new (Err x) h e ok err = subst (HasLength c) (sym err) h
