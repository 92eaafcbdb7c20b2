-- The table of functions by their letters, one function after another.
use Rattle.std.proofs.Common.{◌≡◌, ◌≢◌, ℕ, zero, suc, ◌+◌, Bool, true, false, cond, List, [], ◌∷◌, ◌++◌, take, map, Option, Some, None, refl, sym, ap, ◌∙◌, subst, add-one}
use Rattle.std.specs.Prelude.{nat_eq, ◌&&◌, slice_get, slice_set}
use Rattle.std.proofs.lemmas.Bool.{eqb-true, eqb-false}
use Rattle.std.proofs.Math.ListN.{length-set}
use Rattle.js_tree.specs.Tree.{Name, Func}
use Rattle.play.specs.declared.table.Function.{Function}
use Rattle.play.specs.declared.table.Body.TheVariants as body
use Rattle.play.specs.Value.{Value, Closure, GlobalScope}
use Rattle.play.specs.Run.{or_else, named_value, function_named}
use Rattle.play.specs.Machine.{func_of, body_code, NameIs, NamesAre}
use Rattle.play.proofs.TableLemmas.{none_some, some_one}

or_none : (a : Option Value) → or_else a None ≡ a
or_none None = refl
or_none (Some v) = refl

or_or : (a b c : Option Value) → or_else (or_else a b) c ≡ or_else a (or_else b c)
or_or None b c = refl
or_or (Some v) b c = refl

named_last : (fs : List Func) (g : Func) (x : Name) → function_named (fs ++ g ∷ []) x ≡ or_else (named_value g x) (function_named fs x)
named_last [] g x = sym (or_none (named_value g x))
named_last (f ∷ fs) g x = ap (λ o. or_else o (named_value f x)) (named_last fs g x) ∙ or_or (named_value g x) (function_named fs x) (named_value f x)

map_last : (fs : List Function) (f : Function) → map func_of (fs ++ f ∷ []) ≡ map func_of fs ++ func_of f ∷ []
map_last [] f = refl
map_last (g ∷ fs) f = ap (λ l. func_of g ∷ l) (map_last fs f)

-- whether a function has the letter
named_by : (f : Function) (x : ℕ) → named_value (func_of f) (x ∷ []) ≡ cond (nat_eq f.name x) (Some (Closure (func_of f) GlobalScope)) None
named_by f x = by f.number f.name f.body
  where
    and_true : (b : Bool) → (b && true) ≡ b
    and_true true = refl
    and_true false = refl

    by : (number name : ℕ) (b : _) → named_value (body_code number name b) (x ∷ []) ≡ cond (nat_eq name x) (Some (Closure (body_code number name b) GlobalScope)) None
    by number name (body.Statements code) = ap (λ t. cond t (Some (Closure (body_code number name (body.Statements code)) GlobalScope)) None) (and_true (nat_eq name x))
    by number name (body.Stub place) = ap (λ t. cond t (Some (Closure (body_code number name (body.Stub place)) GlobalScope)) None) (and_true (nat_eq name x))

named_more : (fs : List Function) (f : Function) (x : ℕ) → function_named (map func_of (fs ++ f ∷ [])) (x ∷ []) ≡ or_else (cond (nat_eq f.name x) (Some (Closure (func_of f) GlobalScope)) None) (function_named (map func_of fs) (x ∷ []))
named_more fs f x =
    ap (λ l. function_named l (x ∷ [])) (map_last fs f)
    ∙ (named_last (map func_of fs) (func_of f) (x ∷ []) ∙ ap (λ o. or_else o (function_named (map func_of fs) (x ∷ []))) (named_by f x))

pub taken : {A : Type 0} (xs : List A) (i : ℕ) (x : A) → slice_get xs i ≡ Some x → take (suc i) xs ≡ take i xs ++ x ∷ []
taken [] i x h = absurd (none_some h)
taken (y ∷ ys) zero x h = ap (λ z. z ∷ []) (some_one h)
taken (y ∷ ys) (suc i) x h = ap (λ l. y ∷ l) (taken ys i x h)

got_old : {A : Type 0} (xs ys : List A) (j : ℕ) (x : A) → slice_get xs j ≡ Some x → slice_get (xs ++ ys) j ≡ Some x
got_old [] ys j x h = absurd (none_some h)
got_old (z ∷ zs) ys zero x h = h
got_old (z ∷ zs) ys (suc j) x h = got_old zs ys j x h

taken_at : {A : Type 0} (xs : List A) (i : ℕ) (x : A) → slice_get xs i ≡ Some x → slice_get (take (suc i) xs) i ≡ Some x
taken_at [] i x h = absurd (none_some h)
taken_at (y ∷ ys) zero x h = h
taken_at (y ∷ ys) (suc i) x h = taken_at ys i x h

pub set_here : {A : Type 0} (xs : List A) (i : ℕ) (v o : A) → slice_get (slice_set xs i v) i ≡ Some o → v ≡ o
set_here [] i v o h = absurd (none_some h)
set_here (x ∷ xs) zero v o h = some_one h
set_here (x ∷ xs) (suc i) v o h = set_here xs i v o h

pub set_other : {A : Type 0} (xs : List A) (i j : ℕ) (v : A) → j ≢ i → slice_get (slice_set xs i v) j ≡ slice_get xs j
set_other [] i j v n = refl
set_other (x ∷ xs) zero zero v n = absurd (n refl)
set_other (x ∷ xs) zero (suc j) v n = refl
set_other (x ∷ xs) (suc i) zero v n = refl
set_other (x ∷ xs) (suc i) (suc j) v n = set_other xs i j v (λ e. n (ap suc e))

pub names_more : (fs : List Function) (names : List (Option ℕ)) (i : ℕ) (f : Function) → NamesAre (take i fs) names → slice_get fs i ≡ Some f → NamesAre (take (i + 1) fs) (slice_set names f.name (Some i))
names_more fs names i f h at = subst (λ n. NamesAre (take n fs) (slice_set names f.name (Some i))) (sym (add-one i)) (record {
  all = length-set names f.name (Some i) ∙ h.all;
  are = λ x o q. by x o (nat_eq f.name x) refl q;
})
  where
    is : (x : ℕ) → function_named (map func_of (take (suc i) fs)) (x ∷ []) ≡ or_else (cond (nat_eq f.name x) (Some (Closure (func_of f) GlobalScope)) None) (function_named (map func_of (take i fs)) (x ∷ []))
    is x = ap (λ l. function_named (map func_of l) (x ∷ [])) (taken fs i f at) ∙ named_more (take i fs) f x

    kept : (x : ℕ) → nat_eq f.name x ≡ false → function_named (map func_of (take (suc i) fs)) (x ∷ []) ≡ function_named (map func_of (take i fs)) (x ∷ [])
    kept x e = is x ∙ ap (λ b. or_else (cond b (Some (Closure (func_of f) GlobalScope)) None) (function_named (map func_of (take i fs)) (x ∷ []))) e

    still : (x : ℕ) (o : Option ℕ) → nat_eq f.name x ≡ false → NameIs (take i fs) x o → NameIs (take (suc i) fs) x o
    still x None e n = kept x e ∙ n
    still x (Some j) e n = (n.0, ap (λ l. slice_get l j) (taken fs i f at) ∙ got_old (take i fs) (f ∷ []) j n.0 n.1, kept x e ∙ n.2)

    by : (x : ℕ) (o : Option ℕ) (b : Bool) → nat_eq f.name x ≡ b → slice_get (slice_set names f.name (Some i)) x ≡ Some o → NameIs (take (suc i) fs) x o
    by x o true e q =
        let same = eqb-true f.name x e in
        subst (NameIs (take (suc i) fs) x) (set_here names f.name (Some i) o (ap (slice_get (slice_set names f.name (Some i))) same ∙ q))
        (f, taken_at fs i f at, is x ∙ ap (λ b. or_else (cond b (Some (Closure (func_of f) GlobalScope)) None) (function_named (map func_of (take i fs)) (x ∷ []))) e)
    by x o false e q = still x o e (h.are x o (sym (set_other names f.name x (Some i) (λ s. eqb-false f.name x e (sym s))) ∙ q))
