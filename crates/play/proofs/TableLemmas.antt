-- What is found in a sound table.
use Rattle.std.proofs.Common.{◌≡◌, ℕ, zero, suc, ◌<◌, ◌≤◌, List, [], ◌∷◌, length, map, Option, Some, None, MatchOption, Bor, get_or, refl, sym, ap, ◌∙◌, arith}
use Rattle.std.specs.Prelude.{slice_get}
use Rattle.std.specs.Option.{option_copied}
use Rattle.play.specs.declared.table.Table.{Table}
use Rattle.play.specs.declared.table.Function.{Function}
use Rattle.play.specs.declared.table.Entry.{Entry}
use Rattle.play.specs.declared.table.EntryPlace.{EntryPlace}
use Rattle.play.specs.Value.{Closure, GlobalScope}
use Rattle.play.specs.Run.{function_named}
use Rattle.play.specs.Machine.{func_of, IsSound, StubIs}
use Rattle.play.specs.Calls.{IsNamed, IsHere}
use Rattle.play.proofs.ListLemmas.{got_index}

pub none_some : {A : Type 0} {x : A} → None ≡ Some x → ⊥
none_some e = cc

pub some_one : {A : Type 0} {x y : A} → Some x ≡ Some y → x ≡ y
some_one e = cc

-- what is within a list is there
pub got_within : {A : Type 0} (xs : List A) (i : ℕ) → slice_get xs i ≡ None → length xs ≤ i
got_within [] i h = omega arith
got_within (x ∷ xs) zero h = absurd (none_some (sym h))
got_within (x ∷ xs) (suc i) h = let l = got_within xs i h in omega (arith, l)

pub within_got : {A : Type 0} (xs : List A) (i : ℕ) (x : A) → slice_get xs i ≡ Some x → i < length xs
within_got [] i x h = absurd (none_some h)
within_got (y ∷ ys) zero x h = omega arith
within_got (y ∷ ys) (suc i) x h = let l = within_got ys i x h in omega (arith, l)

pub named_found : (t : Table) (x i : ℕ) (r : Option (Bor Function)) → IsSound t → slice_get t.names x ≡ Some (Some i) → option_copied r ≡ slice_get t.functions i
    → MatchOption r (function_named (map func_of t.functions) (x ∷ []) ≡ None) (λ f. IsNamed t x f.now)
named_found t x i None sound h q = let n = sound.names.are x (Some i) h in absurd (none_some (q ∙ n.1))
named_found t x i (Some f) sound h q =
    let n = sound.names.are x (Some i) h in
    let e : n.0 ≡ f.now = some_one (sym n.1 ∙ sym q) in
    record { place = i; at = sym q; is = n.2 ∙ ap (λ f. Some (Closure (func_of f) GlobalScope)) e }

pub named_missing : (t : Table) (x : ℕ) → IsSound t → x < 256 → slice_get t.names x ≡ None → function_named (map func_of t.functions) (x ∷ []) ≡ None
named_missing t x sound lt h = let l = got_within t.names x h in absurd (omega (arith, l, sound.names.all))

number_at : (es : List Entry) (j : ℕ) (e : Entry) → slice_get es j ≡ Some e → slice_get (map (λ e. e.number) es) j ≡ Some e.number
number_at [] j e h = absurd (none_some h)
number_at (x ∷ xs) zero e h = ap (λ e. Some e.number) (some_one h)
number_at (x ∷ xs) (suc j) e h = number_at xs j e h

number_missing : (es : List Entry) (j : ℕ) → slice_get es j ≡ None → slice_get (map (λ e. e.number) es) j ≡ None
number_missing [] j h = refl
number_missing (x ∷ xs) zero h = absurd (none_some (sym h))
number_missing (x ∷ xs) (suc j) h = number_missing xs j h

pub entry_found : (t : Table) (number : ℕ) (place : EntryPlace) (es : List Entry) (r : Option (Bor Entry)) → IsSound t → StubIs t.manifest number place → slice_get t.loaded place.cluster ≡ Some (Some es) → option_copied r ≡ slice_get es place.entry
    → MatchOption r (slice_get t.loaded place.cluster ≡ Some None) (λ e. IsHere t number place e.now)
entry_found t number place es None sound stub h q =
    absurd (none_some (sym (number_missing es place.entry (sym q)) ∙ (ap (λ l. slice_get l place.entry) (sound.loaded place.cluster stub.line es stub.line_at h) ∙ stub.entry_at)))
entry_found t number place es (Some e) sound stub h q = record {
  entries = es;
  loaded = h;
  at = sym q;
  number_is = some_one (sym (number_at es place.entry e.now (sym q)) ∙ (ap (λ l. slice_get l place.entry) (sound.loaded place.cluster stub.line es stub.line_at h) ∙ stub.entry_at));
}

pub entry_missing : (t : Table) (number : ℕ) (place : EntryPlace) → IsSound t → StubIs t.manifest number place → slice_get t.loaded place.cluster ≡ None → slice_get t.loaded place.cluster ≡ Some None
entry_missing t number place sound stub h =
    let l = got_within t.loaded place.cluster h in
    let w = within_got t.manifest.clusters place.cluster stub.line stub.line_at in
    absurd (omega (arith, l, w, sound.all_loaded))

-- the element of a slice at a place
pub same_element : {A : Type 0} (xs ys : List A) (i : ℕ) (x y : A) → i < length ys → ys ≡ xs → y ≡ get_or ys i y → slice_get xs i ≡ Some x → x ≡ y
same_element xs ys i x y l e h at = some_one (sym at ∙ (ap (λ zs. slice_get zs i) (sym e) ∙ got_index ys i y y l h))
