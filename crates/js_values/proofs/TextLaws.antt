-- Texts of numbers are read back.
use Rattle.std.proofs.Common.{◌≡◌, ℕ, zero, suc, ◌<◌, ◌≤◌, Bool, true, false, cond, ◌&&◌, ◌||◌, ◌==◌, List, [], ◌∷◌, map, length, Ok, refl, ap, ◌∙◌, arith}
use Rattle.std.proofs.Common.{ℤ, pos, negsuc, neg_ℤ}
use Rattle.std.specs.List.{list_all}
use Rattle.std.specs.Char.{digit_char, digit_value}
use Rattle.std.specs.Int.Digits.{digits_of, number_from_digits, AllBelowBase}
use Rattle.std.specs.Str.Parse.{digits_value}
use Rattle.std.proofs.lemmas.List.{length-map}
use Rattle.std.proofs.lemmas.Bool.Decides.{nat_tests}
use Rattle.std.proofs.lemmas.Int.Digits.{digits_value_is, all_below_base_digits_of, number_digits_of, length-digits_of_step}
use Rattle.js_values.specs.declared.number.Num.TheVariants.{Whole}
use Rattle.js_values.specs.Range.{IsInRange}
use Rattle.js_values.specs.Numbers.{whole_or_stop}
use Rattle.js_values.specs.Numerals.{digits_text, number_in}
use Rattle.js_values.specs.NumberTexts.{is_blank, behind, without_last_blanks, trimmed, is_digit, is_decimal, is_hexadecimal, hex_number, behind_prefix}
use Rattle.js_values.specs.NumberTexts.{decimal_number, number_of_literal, number_of_text}
use Rattle.js_values.specs.Laws.{TextsReadBack, DecimalsReadBack}
use Rattle.js_values.proofs.Digits.{digits_text_above}

-- ---- digits

value_of_digit : (d : ℕ) → d < 36 → digit_value (digit_char d) ≡ d
value_of_digit d h = grind (arith, nat_tests)

digit_is_no_sign : (d : ℕ) → (digit_char d == 45) ≡ false
digit_is_no_sign d = grind (arith, nat_tests)

values_of_digits : (radix : ℕ) (ds : List ℕ) → radix ≤ 36 → AllBelowBase radix ds
    → map digit_value (map digit_char ds) ≡ ds
values_of_digits radix [] most h = refl
values_of_digits radix (d ∷ ds) most h =
    ap (λ x. x ∷ map digit_value (map digit_char ds)) (value_of_digit d (omega (arith, h.0)))
    ∙ ap (λ xs. d ∷ xs) (values_of_digits radix ds most h.1)

-- the digits of a number write it
value_of_text : (radix n : ℕ) → 2 ≤ radix → radix ≤ 36 → digits_value radix (digits_text radix n) ≡ n
value_of_text radix zero least most = omega arith
value_of_text radix (suc n) least most =
    let ds = digits_of radix (suc n) in
    ap (digits_value radix) (digits_text_above radix (suc n) (omega arith))
    ∙ digits_value_is radix (map digit_char ds)
    ∙ ap (number_from_digits radix) (values_of_digits radix ds most (all_below_base_digits_of radix (suc n) least))
    ∙ number_digits_of radix (suc n) least

number_in-map : (radix : ℕ) (ds : List ℕ) → number_in radix (map digit_char ds) ≡ pos (digits_value radix (map digit_char ds))
number_in-map radix [] = refl
number_in-map radix (d ∷ ds) = rw (digit_is_no_sign d)

number_in-digits : (radix n : ℕ) → number_in radix (digits_text radix n) ≡ pos (digits_value radix (digits_text radix n))
number_in-digits radix zero = refl
number_in-digits radix (suc n) = rw (digits_text_above radix (suc n) (omega arith)) (number_in-map radix (digits_of radix (suc n)))

pub texts_read_back : TextsReadBack
texts_read_back radix (pos n) least most =
    number_in-digits radix n ∙ ap pos (value_of_text radix n least most)
texts_read_back radix (negsuc n) least most =
    ap (λ m. neg_ℤ (pos m)) (value_of_text radix (suc n) least most)

-- ---- in ten

pub both : (a b : Bool) → (a && b) ≡ true → (a ≡ true) × (b ≡ true)
both true b h = (refl, h)
both false b h = cc

-- a digit or `-`
abbrev is_plain : ℕ → Bool
is_plain c = is_digit c || (c == 45)

plain_is_no_blank : (c : ℕ) → is_plain c ≡ true → is_blank c ≡ false
plain_is_no_blank c h = grind (arith, nat_tests)

digit_is_plain : (c : ℕ) → is_digit c ≡ true → is_plain c ≡ true
digit_is_plain c h = rw h refl

digits_are_plain : (text : List ℕ) → list_all is_digit text ≡ true → list_all is_plain text ≡ true
digits_are_plain [] h = refl
digits_are_plain (c ∷ cs) h =
    let parts = both (is_digit c) (list_all is_digit cs) h in
    rw (digit_is_plain c parts.0, digits_are_plain cs parts.1) refl

none_last : (text : List ℕ) → list_all is_plain text ≡ true → without_last_blanks text ≡ text
none_last [] h = refl
none_last (c ∷ cs) h =
    let parts = both (is_plain c) (list_all is_plain cs) h in
    rw (plain_is_no_blank c parts.0) (ap (λ xs. c ∷ xs) (none_last cs parts.1))

none_first : (text : List ℕ) → list_all is_plain text ≡ true → behind is_blank text ≡ text
none_first [] h = refl
none_first (c ∷ cs) h =
    let parts = both (is_plain c) (list_all is_plain cs) h in
    rw (plain_is_no_blank c parts.0) refl

none_trimmed : (text : List ℕ) → list_all is_plain text ≡ true → trimmed text ≡ text
none_trimmed text h = ap without_last_blanks (none_first text h) ∙ none_last text h

plain_is_no_x : (c x : ℕ) → is_plain x ≡ true → ((c == 48) && ((x == 120) || (x == 88))) ≡ false
plain_is_no_x c x h = grind (arith, nat_tests)

no_prefix : (text : List ℕ) → list_all is_plain text ≡ true → behind_prefix text ≡ []
no_prefix [] h = refl
no_prefix (c ∷ []) h = refl
no_prefix (c ∷ (x ∷ cs)) h =
    let parts = both (is_plain c) (list_all is_plain (x ∷ cs)) h in
    let second = both (is_plain x) (list_all is_plain cs) parts.1 in
    rw (plain_is_no_x c x second.0) refl

-- a text of digits and `-` is read in decimal
plain_number : (c : ℕ) (cs : List ℕ) → list_all is_plain (c ∷ cs) ≡ true
    → number_of_text (c ∷ cs) ≡ decimal_number (c ∷ cs)
plain_number c cs h =
    ap number_of_literal (none_trimmed (c ∷ cs) h)
    ∙ ap (λ digits. cond (is_hexadecimal digits) (hex_number (c ∷ cs)) (decimal_number (c ∷ cs))) (no_prefix (c ∷ cs) h)

digit_begins_no_sign : (c : ℕ) → is_digit c ≡ true → ((c == 43) || (c == 45)) ≡ false
digit_begins_no_sign c h = grind (arith, nat_tests)

digit_is_no_minus : (c : ℕ) → is_digit c ≡ true → (c == 45) ≡ false
digit_is_no_minus c h = grind (arith, nat_tests)

positive_number : (text : List ℕ) → is_decimal text ≡ true
    → number_of_text text ≡ whole_or_stop (pos (digits_value 10 text))
positive_number [] h = cc
positive_number (c ∷ cs) h =
    let parts = both (is_digit c) (list_all is_digit cs) h in
    plain_number c cs (digits_are_plain (c ∷ cs) h)
    ∙ rw (digit_begins_no_sign c parts.0, h, digit_is_no_minus c parts.0) refl

negative_number : (text : List ℕ) → is_decimal text ≡ true
    → number_of_text (45 ∷ text) ≡ whole_or_stop (neg_ℤ (pos (digits_value 10 text)))
negative_number [] h = cc
negative_number (c ∷ cs) h =
    plain_number 45 (c ∷ cs) (digits_are_plain (c ∷ cs) h) ∙ rw h refl

decimal_digit : (d : ℕ) → d < 10 → is_digit (digit_char d) ≡ true
decimal_digit d h = grind (arith, nat_tests)

decimal_digits : (ds : List ℕ) → AllBelowBase 10 ds → list_all is_digit (map digit_char ds) ≡ true
decimal_digits [] h = refl
decimal_digits (d ∷ ds) h = rw (decimal_digit d h.0, decimal_digits ds h.1) refl

all_and_some : (text : List ℕ) → list_all is_digit text ≡ true → 0 < length text → is_decimal text ≡ true
all_and_some [] h l = absurd (omega arith)
all_and_some (c ∷ cs) h l = h

is_decimal-digits : (n : ℕ) → is_decimal (digits_text 10 n) ≡ true
is_decimal-digits zero = refl
is_decimal-digits (suc n) =
    let ds = digits_of 10 (suc n) in
    let some = length-digits_of_step 10 (suc n) (omega arith) (omega arith) in
    rw (digits_text_above 10 (suc n) (omega arith))
    (all_and_some (map digit_char ds) (decimal_digits ds (all_below_base_digits_of 10 (suc n) (omega arith)))
    (omega (arith, length-map ds digit_char)))

in_range : (z : ℤ) → IsInRange z → whole_or_stop z ≡ Ok (Whole z)
in_range z h = grind (arith, nat_tests)

pub decimals_read_back : DecimalsReadBack
decimals_read_back (pos n) h =
    positive_number (digits_text 10 n) (is_decimal-digits n)
    ∙ ap (λ m. whole_or_stop (pos m)) (value_of_text 10 n (omega arith) (omega arith))
    ∙ in_range (pos n) h
decimals_read_back (negsuc n) h =
    negative_number (digits_text 10 (suc n)) (is_decimal-digits (suc n))
    ∙ ap (λ m. whole_or_stop (neg_ℤ (pos m))) (value_of_text 10 (suc n) (omega arith) (omega arith))
    ∙ in_range (negsuc n) h
