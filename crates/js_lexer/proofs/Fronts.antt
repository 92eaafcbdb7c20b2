-- Laws of the fronts of a text.
use Rattle.std.proofs.Common.{◌≡◌, ℕ, zero, suc, ◌+◌, ◌-◌, take, length-drop, ◌<◌, ◌≤◌, true, false, ◌&&◌, ◌==◌, List, [], ◌∷◌, drop, get_or, length, refl, ap, arith, add-one}
use Rattle.std.proofs.lemmas.List.{at_drop_all}
use Rattle.js_lexer.specs.Characters.{begins}

begins_suc : (xs cs : List ℕ) (i : ℕ) → i < length xs → i < length cs → begins (drop i xs) (drop i cs) ≡ ((get_or xs i 0 == get_or cs i 0) && begins (drop (suc i) xs) (drop (suc i) cs))
begins_suc [] cs i l m = absurd (omega arith)
begins_suc (x ∷ xs) [] i l m = absurd (omega arith)
begins_suc (x ∷ xs) (c ∷ cs) zero l m = refl
begins_suc (x ∷ xs) (c ∷ cs) (suc i) l m = begins_suc xs cs i (omega arith) (omega arith)

pub begins_more : (xs cs : List ℕ) (i : ℕ) → i < length xs → i < length cs → begins (drop i xs) (drop i cs) ≡ ((get_or xs i 0 == get_or cs i 0) && begins (drop (i + 1) xs) (drop (i + 1) cs))
begins_more xs cs i l m = rw add-one (begins_suc xs cs i l m)

pub begins_short : (xs cs : List ℕ) (i : ℕ) → i < length xs → length cs ≤ i → begins (drop i xs) (drop i cs) ≡ false
begins_short [] cs i l m = absurd (omega arith)
begins_short (x ∷ xs) [] zero l m = refl
begins_short (x ∷ xs) [] (suc i) l m = begins_short_nil xs i (omega arith)
  where
    begins_short_nil : (xs : List ℕ) (i : ℕ) → i < length xs → begins (drop i xs) [] ≡ false
    begins_short_nil [] i l = absurd (omega arith)
    begins_short_nil (x ∷ xs) zero l = refl
    begins_short_nil (x ∷ xs) (suc i) l = begins_short_nil xs i (omega arith)
begins_short (x ∷ xs) (c ∷ cs) zero l m = absurd (omega arith)
begins_short (x ∷ xs) (c ∷ cs) (suc i) l m = begins_short xs cs i (omega arith) (omega arith)

pub begins_all : (xs cs : List ℕ) (i : ℕ) → length xs ≤ i → begins (drop i xs) (drop i cs) ≡ true
begins_all xs cs i l = at_drop_all (λ ys. begins ys (drop i cs)) xs i l

take_all : (n : ℕ) (cs : List ℕ) → length cs ≤ n → take n cs ≡ cs
take_all zero [] l = refl
take_all zero (c ∷ cs) l = absurd (omega arith)
take_all (suc n) [] l = refl
take_all (suc n) (c ∷ cs) l = ap (λ ds. c ∷ ds) (take_all n cs (omega arith))

-- what stands from a place on
pub rest_of : (cs : List ℕ) (i : ℕ) → take (length cs - i) (drop i cs) ≡ drop i cs
rest_of cs i = take_all (length cs - i) (drop i cs) (omega (arith, length-drop i cs))

-- the lemmas of a test of a front, character by character
pub ruleset beginning = (begins_more, begins_short, begins_all)
