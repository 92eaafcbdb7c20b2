-- A number in decimal that stands in a text is read as itself, where nothing stands behind it that may not.
use Rattle.std.proofs.Common.{◌≡◌, ℕ, zero, suc, ◌+◌, ◌*◌, ◌^◌, ◌<◌, ◌==◌, Bool, true, false, ◌||◌, List, [], ◌∷◌, ◌++◌, length, take, drop, get_or, Some, None, cond, refl, ap, sym, ◌∙◌, subst, arith, rules, lit<}
use Rattle.std.specs.Prelude.{fold}
use Rattle.std.specs.List.{list_all}
use Rattle.std.specs.Char.{digit_value, is_ascii_alphabetic}
use Rattle.std.specs.Fmt.{decimal}
use Rattle.std.proofs.Math.Seq.{take-append_seam, drop-append_seam}
use Rattle.std.proofs.lemmas.Bool.{lt-ltb}
use Rattle.std.proofs.lemmas.Bool.Decides.{nat_tests}
use Rattle.std.proofs.lemmas.Fmt.{digits_decimal, digits_value-decimal, decimal_nonempty, first_decimal, decimal_digit}
use Rattle.std.proofs.lemmas.Str.Parse.{IsNumeralModel, numerals_by_fold}
use Rattle.unicode_ident.proofs.IdentLemmas.{is_xid_start-ascii}
use Rattle.js_lexer.specs.Characters.{begins_name, is_digit, first_is, number_of}
use Rattle.js_lexer.specs.Fronts.{StandsAt, front_by, after_number, is_hex_number, decimal_length, decimal_number, tested_number}
use Rattle.js_lexer.specs.Fronts as f
use Rattle.js_lexer.specs.declared.front.Front.TheVariants.{Next}
use Rattle.js_lexer.specs.declared.token.LexKind.TheVariants as k
use Rattle.js_lexer.specs.declared.token.TokenKind.TheVariants as t
use Rattle.js_lexer.proofs.Longest.{digit_front, digit_quote, not_hex}
use Rattle.js_lexer.proofs.PieceLaws.{left}
use Rattle.cluster_files.proofs.SpelledNames.{run_exact}

with_digits : ℕ → List ℕ → ℕ
with_digits = fold (λ n c. 10 * n + digit_value c)

own : IsNumeralModel (λ ds. list_all is_digit ds ≡ true) (number_of 10)
own = numerals_by_fold _ (search (rules, nat_tests)) (fold (λ n c. 10 * n + digit_value c)) (search (rules, nat_tests))

-- what may stand behind a number begins no digit and no name
record Apart (rest : List ℕ) : Type 0 where
  digit : first_is is_digit rest ≡ false
  name : first_is begins_name rest ≡ false

apart : (rest : List ℕ) → after_number false rest ≡ None → Apart rest
apart [] h = record { digit = refl; name = refl }
apart (c ∷ cs) h = at (is_digit c) (c == 46) ((c == 101) || (c == 69)) (begins_name c) refl refl refl refl h
  where
    at : (a b d e : Bool) → is_digit c ≡ a → (c == 46) ≡ b → ((c == 101) || (c == 69)) ≡ d → begins_name c ≡ e
        → cond a (Some k.Octal) (cond b (Some k.Fraction) (cond d (Some k.Exponent) (cond (e || (c == 92)) (Some k.NumberTail) None))) ≡ None → Apart (c ∷ cs)
    at true b d e ea eb ed ee h = absurd (cc)
    at false true d e ea eb ed ee h = absurd (cc)
    at false false true e ea eb ed ee h = absurd (cc)
    at false false false true ea eb ed ee h = absurd (cc)
    at false false false false ea eb ed ee h = record { digit = ea; name = ee }

ascii_begins : (c : ℕ) → c < 128 → ((c == 36) || ((c == 95) || is_ascii_alphabetic c)) ≡ true → begins_name c ≡ true
ascii_begins c low e = rw (is_xid_start-ascii c low) e

zero_is_decimal : (rest : List ℕ) → first_is begins_name rest ≡ false → is_hex_number (48 ∷ rest) ≡ false
zero_is_decimal [] h = refl
zero_is_decimal (b ∷ []) h = refl
zero_is_decimal (b ∷ c ∷ cs) h = rw (no_letter b h 120 (ascii_begins 120 (lit< tt) refl), no_letter b h 88 (ascii_begins 88 (lit< tt) refl)) refl
  where
    clash : true ≡ false → ⊥
    clash e = absurd (cc)

    no_letter : (b : ℕ) → begins_name b ≡ false → (d : ℕ) → begins_name d ≡ true → (b == d) ≡ false
    no_letter b h d e = let ne : b ≡ d → ⊥ = λ same. clash (sym e ∙ (ap begins_name (sym same) ∙ h)) in grind (arith, nat_tests)

wide : (n : ℕ) → n < 2 ^ 53 → n < 2 ^ 64
wide n h = omega arith

tested : (n m : ℕ) → m < 2 ^ 53 → tested_number n m None ≡ Next n (Some (t.Number m))
tested n m h = rw (lt-ltb m (2 ^ 53) h) refl

zero_stands : (rest : List ℕ) → after_number false rest ≡ None → StandsAt (48 ∷ rest) (Next 1 (Some (t.Number 0)))
zero_stands rest h =
    let e : f.number (48 ∷ rest) ≡ Next 1 (Some (t.Number 0)) = rw (zero_is_decimal rest (apart rest h).name, h) refl in
    subst (StandsAt (48 ∷ rest)) (digit_front 48 rest refl ∙ e) (f.other refl)

-- digits without a leading zero
digits_stand : (d : ℕ) (ds rest : List ℕ) (n : ℕ) → n < 2 ^ 53 → (d == 48) ≡ false → list_all is_digit (d ∷ ds) ≡ true → number_of 10 (d ∷ ds) ≡ n → after_number false rest ≡ None
    → StandsAt (d ∷ (ds ++ rest)) (Next (length (d ∷ ds)) (Some (t.Number n)))
digits_stand d ds rest n small z all v h =
    let digit = left (is_digit d) (list_all is_digit ds) all in
    let count : decimal_length (d ∷ (ds ++ rest)) ≡ length (d ∷ ds) = rw z (run_exact is_digit (d ∷ ds) rest all (apart rest h).digit) in
    let e : f.number (d ∷ (ds ++ rest)) ≡ Next (length (d ∷ ds)) (Some (t.Number n)) =
    ap (λ b. cond b (f.hex_number (drop 2 (d ∷ (ds ++ rest)))) (decimal_number (d ∷ (ds ++ rest)))) (not_hex d (ds ++ rest) z)
    ∙ ap (λ m. tested_number m (number_of 10 (take m (d ∷ (ds ++ rest)))) (after_number false (drop m (d ∷ (ds ++ rest))))) count
    ∙ ap (λ us. tested_number (length (d ∷ ds)) (number_of 10 us) (after_number false (drop (length (d ∷ ds)) (d ∷ (ds ++ rest))))) (take-append_seam (d ∷ ds) rest)
    ∙ ap (λ us. tested_number (length (d ∷ ds)) (number_of 10 (d ∷ ds)) (after_number false us)) (drop-append_seam (d ∷ ds) rest)
    ∙ ap (tested_number (length (d ∷ ds)) (number_of 10 (d ∷ ds))) h
    ∙ ap (λ m. tested_number (length (d ∷ ds)) m None) v
    ∙ tested (length (d ∷ ds)) n small in
    subst (StandsAt (d ∷ (ds ++ rest))) (digit_front d (ds ++ rest) digit ∙ e) (f.other (digit_quote d digit))

pub decimal_digits : (n : ℕ) → n < 2 ^ 53 → list_all is_digit (decimal n) ≡ true
decimal_digits n h = digits_decimal own n (wide n h)

pub number_stands : (n : ℕ) (rest : List ℕ) → n < 2 ^ 53 → after_number false rest ≡ None → StandsAt (decimal n ++ rest) (Next (length (decimal n)) (Some (t.Number n)))
number_stands zero rest small h = subst (λ us. StandsAt (us ++ rest) (Next (length us) (Some (t.Number 0)))) (sym (decimal_digit 0 (omega arith))) (zero_stands rest h)
number_stands (suc n) rest small h =
    at (decimal (suc n)) (decimal_digits (suc n) small) (digits_value-decimal own (suc n) (wide (suc n) small)) (decimal_nonempty (suc n) (wide (suc n) small)) (first_decimal (suc n) (omega arith) (wide (suc n) small))
  where
    at : (ds : List ℕ) → list_all is_digit ds ≡ true → number_of 10 ds ≡ suc n → 0 < length ds → 48 < get_or ds 0 0 → StandsAt (ds ++ rest) (Next (length ds) (Some (t.Number (suc n))))
    at [] a v l first = absurd (omega arith)
    at (d ∷ ds) a v l first = digits_stand d ds rest (suc n) small (grind (arith, nat_tests)) a v h
