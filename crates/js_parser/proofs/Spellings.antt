-- When a name is spelled as another one is.
use Rattle.std.proofs.Common.{◌≡◌, ℕ, suc, ◌&&◌, ◌==◌, Bool, true, false, nat_eq, List, [], ◌∷◌, length, refl, ap, ◌∙◌, arith}
use Rattle.std.proofs.lemmas.Bool.Decides.{nat_tests}
use Rattle.std.specs.Cmp.Lexicographic.{pointwise}
use Rattle.js_lexer.specs.Characters.{begins}
use Rattle.js_lexer.specs.Words.{is_spelled}

swapped : (a b c : Bool) → (a && (b && c)) ≡ (b && (a && c))
swapped true b c = refl
swapped false true c = refl
swapped false false c = refl

one_more : (m n : ℕ) → (m == n) ≡ (suc m == suc n)
one_more m n = grind (arith, nat_tests)

pub spelled_items : (xs ys : List ℕ) → pointwise nat_eq xs ys ≡ is_spelled xs ys
spelled_items [] [] = refl
spelled_items [] (y ∷ ys) = grind (arith, nat_tests)
spelled_items (x ∷ xs) [] = grind (arith, nat_tests)
spelled_items (x ∷ xs) (y ∷ ys) =
    ap (λ b. (x == y) && b) (spelled_items xs ys)
    ∙ swapped (x == y) (length xs == length ys) (begins xs ys)
    ∙ ap (λ b. b && ((x == y) && begins xs ys)) (one_more (length xs) (length ys))
