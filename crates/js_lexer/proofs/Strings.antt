-- Laws of the inside of a string.
use Rattle.std.proofs.Common.{◌≡◌, ℕ, zero, suc, ◌+◌, List, [], ◌∷◌, ◌++◌, drop, Some, None, refl, ap, sym, ◌∙◌, subst, arith, append_assoc, append-nil}
use Rattle.std.specs.Char.Escape.{encode_utf16}
use Rattle.js_lexer.specs.Fronts.{IsInside, none, more, string_part}

-- what is inside behind the first n characters, which give these units, is inside from the front on
abbrev pub Continues : ℕ → List ℕ → ℕ → List ℕ → Type 0
Continues quote cs at before = (n : ℕ) (units : List ℕ) → IsInside quote (drop at cs) n units → IsInside quote cs (at + n) (before ++ units)

pub continues_start : (quote : ℕ) (cs : List ℕ) → Continues quote cs 0 []
continues_start quote cs n units inside = subst (λ m. IsInside quote cs m units) (omega arith) inside

drop_nil : (n : ℕ) → drop {A = ℕ} n [] ≡ []
drop_nil zero = refl
drop_nil (suc n) = refl

pub drop_drop : (cs : List ℕ) (i j : ℕ) → drop j (drop i cs) ≡ drop (i + j) cs
drop_drop cs zero j = ap (λ n. drop n cs) (omega arith)
drop_drop [] (suc i) j = drop_nil j ∙ sym (drop_nil (suc i + j))
drop_drop (c ∷ cs) (suc i) j = drop_drop cs i j ∙ ap (λ n. drop n (c ∷ cs)) (shift i j)
  where
    shift : (i j : ℕ) → suc (i + j) ≡ suc i + j
    shift i j = omega arith

pub continues_more : (quote : ℕ) (cs : List ℕ) (at : ℕ) (before : List ℕ) (value len : ℕ) → string_part quote (drop at cs) ≡ Some (value, len)
    → Continues quote cs at before → Continues quote cs (at + len) (before ++ encode_utf16 value)
continues_more quote cs at before value len part goes n units inside =
    let there : IsInside quote (drop len (drop at cs)) n units = subst (λ ds. IsInside quote ds n units) (sym (drop_drop cs at len)) inside in
    let whole = goes (len + n) (encode_utf16 value ++ units) (more value len n units part there) in
    subst (λ m. IsInside quote cs m ((before ++ encode_utf16 value) ++ units)) (omega arith)
    (subst (λ us. IsInside quote cs (at + (len + n)) us) (sym (append_assoc before (encode_utf16 value) units)) whole)

pub continues_end : (quote : ℕ) (cs : List ℕ) (at : ℕ) (before : List ℕ) → string_part quote (drop at cs) ≡ None → Continues quote cs at before → IsInside quote cs at before
continues_end quote cs at before stops goes =
    subst (λ m. IsInside quote cs m before) (omega arith) (subst (λ us. IsInside quote cs (at + 0) us) (append-nil before) (goes 0 [] (none stops)))
