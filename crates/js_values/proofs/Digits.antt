-- Digits in a radix, from the lowest on.
use Rattle.std.proofs.Common.{◌≡◌, ℕ, zero, suc, ◌/◌, ◌%◌, ◌<◌, ◌≤◌, [], ◌∷◌, ◌++◌, map, refl, sym, ap, ◌∙◌, arith}
use Rattle.std.proofs.Math.Nat.{div-eq_of_lt, mod-eq_of_lt}
use Rattle.std.proofs.lemmas.List.{map-append}
use Rattle.std.proofs.lemmas.Nat.{le-div}
use Rattle.std.proofs.lemmas.Bool.Decides.{nat_tests}
use Rattle.std.specs.Char.{digit_char}
use Rattle.std.specs.Int.Digits.{digits_of}
use Rattle.std.proofs.lemmas.Int.Digits.{digits_of_step}
use Rattle.js_values.specs.Numerals.{digits_text}

pub digits_text_above : (radix n : ℕ) → 0 < n → digits_text radix n ≡ map digit_char (digits_of radix n)
digits_text_above radix n h = grind (arith, nat_tests)

pub digits_text_one : (radix n : ℕ) → 2 ≤ radix → n < radix → digits_text radix n ≡ digit_char n ∷ []
digits_text_one radix zero least h = refl
digits_text_one radix (suc n) least h =
    let step = digits_of_step radix (suc n) least (omega arith) in
    let none : suc n / radix ≡ 0 = div-eq_of_lt h in
    let one : suc n % radix ≡ suc n = mod-eq_of_lt h in
    digits_text_above radix (suc n) (omega arith)
    ∙ ap (map digit_char) step
    ∙ ap (λ q. map digit_char (digits_of radix q ++ suc n % radix ∷ [])) none
    ∙ ap (λ r. digit_char r ∷ []) one

pub digits_text_more : (radix n : ℕ) → 2 ≤ radix → radix ≤ n
    → digits_text radix n ≡ digits_text radix (n / radix) ++ digit_char (n % radix) ∷ []
digits_text_more radix n least h =
    let some : 0 < n = omega arith in
    let many : 0 < n / radix = le-div 1 n radix (omega arith) (omega arith) in
    digits_text_above radix n some
    ∙ ap (map digit_char) (digits_of_step radix n least some)
    ∙ map-append digit_char (digits_of radix (n / radix)) (n % radix ∷ [])
    ∙ ap (λ ds. ds ++ digit_char (n % radix) ∷ []) (sym (digits_text_above radix (n / radix) many))

pub ruleset digits_texts = (digits_text_one, digits_text_more)
