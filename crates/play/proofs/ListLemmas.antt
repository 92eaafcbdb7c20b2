-- Lists: what is read by an index, and what follows the first item.
use Rattle.std.proofs.Common.{◌≡◌, ℕ, zero, suc, ◌+◌, ◌<◌, ◌≤◌, Bool, true, false, cond, List, [], ◌∷◌, length, drop, get_or, Some, None, refl, sym, ap, ◌∙◌, eq-eqb, arith}
use Rattle.std.specs.Prelude.{nat_eq, ◌||◌, slice_get}
use Rattle.std.specs.List.{list_any}
use Rattle.play.specs.declared.manifest.ClusterLine.{ClusterLine}
use Rattle.play.specs.Site.{line_of}
use Rattle.std.proofs.lemmas.List.{drop-drop}

pub passed_one : {A : Type 0} (n : ℕ) (xs : List A) → drop (n + 1) xs ≡ drop 1 (drop n xs)
passed_one n xs = sym (drop-drop 1 n xs)

pub passed_none : {A : Type 0} (n : ℕ) (xs : List A) → length xs ≤ n → drop n xs ≡ drop 1 (drop n xs)
passed_none n [] h = none n
  where
    none : {A : Type 0} (n : ℕ) → drop {A = A} n [] ≡ drop 1 (drop {A = A} n [])
    none zero = refl
    none (suc n) = refl
passed_none zero (x ∷ xs) h = absurd (omega arith)
passed_none (suc n) (x ∷ xs) h = passed_none n xs (omega arith)

-- an element that was read by its index
pub got_index : {A : Type 0} (xs : List A) (i : ℕ) (x d : A) → i < length xs → x ≡ get_or xs i d → slice_get xs i ≡ Some x
got_index [] i x d l e = absurd (omega arith)
got_index (y ∷ ys) zero x d l e = ap Some (sym e)
got_index (y ∷ ys) (suc i) x d l e = got_index ys i x d (omega arith) e

pub any_at : (xs : List ℕ) (i x : ℕ) → slice_get xs i ≡ Some x → list_any (nat_eq x) xs ≡ true
any_at [] i x h = absurd (none_some h)
  where
    none_some : {x : ℕ} → None ≡ Some x → ⊥
    none_some e = cc
any_at (y ∷ ys) zero x h = let e : y ≡ x = cc in ap (λ b. b || list_any (nat_eq x) ys) (eq-eqb x y (sym e))
any_at (y ∷ ys) (suc i) x h = or_true (nat_eq x y) _ (any_at ys i x h)
  where
    or_true : (a b : Bool) → b ≡ true → a || b ≡ true
    or_true true b e = refl
    or_true false b e = e

pub line_found : (cs : List ClusterLine) (i : ℕ) (c : ClusterLine) (k : ℕ) → slice_get cs i ≡ Some c → list_any (nat_eq k) c.entries ≡ true → line_of (drop i cs) k ≡ Some c
line_found [] i c k h t = absurd (none_some h)
  where
    none_some : {x : ClusterLine} → None ≡ Some x → ⊥
    none_some e = cc
line_found (d ∷ ds) zero c k h t =
    let e : d ≡ c = cc in
    ap (λ (x : ClusterLine). cond (list_any (nat_eq k) x.entries) (Some x) (line_of ds k)) e ∙ ap (λ b. cond b (Some c) (line_of ds k)) t
line_found (d ∷ ds) (suc i) c k h t = line_found ds i c k h t
